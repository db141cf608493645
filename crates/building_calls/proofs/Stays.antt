-- Calls over books that stand in a building, by what happened over them.
use Rattle.std.proofs.Common.{◌≡◌, [], refl, ap, sym, ◌∙◌, subst}
use Rattle.keycard_rules.specs.{declared.kept.Kept.Ghosts as KeptOf, Calls.Told}
use Rattle.hotel_books.specs.declared.books.Books.{Ghosts as BooksOf}
use Rattle.hotel_model.specs.{History.History, Rows.Rows, RowsOf.rows_of, Run.Reached}
use Rattle.hotel_model.proofs.Starts.StartRows.{rows_of_start}
use Rattle.hotel_core.specs.Books.Happens.{Happens, HappensBy}
use Rattle.hotel_building.specs.Building.{Building, Step, Accepted, Told as IsTold, Forged, ◌▸◌, desk}
use Rattle.hotel_building.specs.Calls.{Houses, IsOfDesk, LedOn, NoMoreBad, RunsStay, but_for_faults}
use Rattle.hotel_building.specs.Calls.{faultless}
use Rattle.hotel_building.proofs.{Faults.faults_harm_their_doors, RunsStay.runs_stay, RunsStay.runs_stay_but}
use Rattle.hotel_building.proofs.Whole.{whole}
use Rattle.building_calls.specs.Stands.{DoorsMove, OpensSo, StandIn, StaysIn}

-- what is known of buildings
pub record Known (houses : Houses) : Type 0 where
  pub reached : (b : Building) → houses.can_be b → Reached (desk b)
  pub run : RunsStay houses

pub known : Known faultless
known = record { reached = λ b ok. (whole b ok).desk_ok; run = runs_stay }

pub known_but : Known but_for_faults
known_but = record { reached = λ b ok. (faults_harm_their_doors b ok).0; run = runs_stay_but }

-- what happens to the desk leads to one of a building
abbrev pub LeadsOut : Houses → (Building → Type 0) → (History → History → Type 0) → Type 0
LeadsOut houses may went = (b : Building) (later : History) → houses.can_be b → may b → Reached later
    → went (desk b) later
    → (b' : Building) × houses.can_be b' × LedOn b b' × NoMoreBad b b' × (desk b' ≡ later)

pub stays_by : (houses : Houses) → Known houses → {S : Type 0} (K : KeptOf S) (rows : S → Rows)
    (may : Building → Type 0) (went : History → History → Type 0) (old new : S) → LeadsOut houses may went
    → Happens K rows old went new → StaysIn houses K rows old may went new
stays_by houses facts K rows may went old new out happened b ok stands honest may_be =
    let led = happened honest (desk b) (facts.reached b ok) stands in
    let to = out b led.0 ok may_be led.1 led.3 in (
      to.0,
      to.1,
      λ clean. led.2 clean ∙ ap rows_of (sym to.4),
      to.2,
      to.3,
      subst (went (desk b)) (sym to.4) led.3,
    )

-- what calls led to, and what of it is told
pub by_calls : {S : Type 0} (K : KeptOf S) (own : BooksOf S) (went : Told → History → History → Type 0)
    (other : History → History → Type 0) (old new : S) → ((told : Told) (h h' : History) → went told h h' → other h h')
    → HappensBy K own old went new → Happens K own.rows old other new
by_calls K own went other old new too by honest h reached stands =
    let k = by.happened honest h reached stands in (k.0, k.1, k.2, too by.told h k.0 k.3, k.4)

-- ---- where nothing happened

pub stay_out : (houses : Houses) (b : Building) (later : History) → houses.can_be b → later ≡ desk b
    → (b' : Building) × houses.can_be b' × LedOn b b' × NoMoreBad b b' × (desk b' ≡ later)
stay_out houses b later ok e = (b, ok, ([], refl), λ r good. good, sym e)

-- ---- openings and doors

pub opens_so : {S : Type 0} (K : KeptOf S) (rows : S → Rows) → OpensSo faultless K rows
opens_so K rows books sound = (sound, λ clean. sym (rows_of_start (rows books) sound))

pub opens_so_but : {S : Type 0} (K : KeptOf S) (rows : S → Rows) → OpensSo but_for_faults K rows
opens_so_but K rows books sound = (sound, λ clean. sym (rows_of_start (rows books) sound))

same_desk : (b : Building) (step : Step) → (IsOfDesk step → ⊥) → desk (b ▸ step) ≡ desk b
same_desk b (Accepted event) apart = absurd (apart tt)
same_desk b (IsTold room) apart = absurd (apart tt)
same_desk b (Forged note) apart = absurd (apart tt)
same_desk b step apart = refl

stand_on : {S : Type 0} (K : KeptOf S) (rows : S → Rows) (books : S) (b : Building) (step : Step)
    → (IsOfDesk step → ⊥) → StandIn K rows books b → StandIn K rows books (b ▸ step)
stand_on K rows books b step apart stands clean = stands clean ∙ ap rows_of (sym (same_desk b step apart))

pub doors_move : {S : Type 0} (K : KeptOf S) (rows : S → Rows) → DoorsMove faultless K rows
doors_move K rows books b step apart ok may stands = ((ok, may), stand_on K rows books b step apart stands)

pub doors_move_but : {S : Type 0} (K : KeptOf S) (rows : S → Rows) → DoorsMove but_for_faults K rows
doors_move_but K rows books b step apart ok may stands = ((ok, may), stand_on K rows books b step apart stands)
