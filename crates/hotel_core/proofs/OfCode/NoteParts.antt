-- Parts of a step that takes a note of a lock.
use Rattle.std.proofs.Common.{ℕ, ◌≡◌, ◌==◌, ◌<◌, ◌≤◌, Bool, true, false, not, ◌&&◌, Option, Some, None, is_some, List}
use Rattle.std.proofs.Common.{[], ◌∷◌, ◌+◌, ◌-◌, nat_le, nat_lt, if◌then◌else◌, Result, Ok, Err, IsErrAnd, refl, ap}
use Rattle.std.proofs.Common.{sym, ◌∙◌, subst, arith, IsSome, inl}
use Rattle.hotel_books.proofs.Names.{false≢true, nat_tests, Stream, past, Card, Link, Act, Note, Change, Reply, Refused}
use Rattle.hotel_books.proofs.Names.{NotBegun, NoRoom, NoFit, OldFit, Gap, Store, RoomRow, said_of, Rows, room_at}
use Rattle.hotel_books.proofs.Names.{card_at, code_place, note_at, same_link, has_link_on, told_on, untaken_on}
use Rattle.hotel_books.proofs.Names.{is_fit_on, present_fit_on, reported_on, outcome_on, AreWhole, GoesIf, made_by}
use Rattle.hotel_books.proofs.Names.{Outcome, said, refused, needs, unless, is_failed}
use Rattle.hotel_core.specs.Refinement.StepOnRows.{StepsAs}
use Rattle.hotel_books.specs.declared.books.Books.{Ghosts as BooksOf}
use Rattle.keycard_rules.proofs.Drawing.{past-zero}
use Rattle.hotel_model.specs.declared.command.Command.TheVariants as command
use Rattle.hotel_core.proofs.OfCode.Parts.{SoFar, stays_so, passed_on, refuses}
use Rattle.hotel_core.proofs.OfCode.Counting.{none_more, untold}
use Rattle.hotel_core.specs.Refinement.NextNote.{next_checked}
use Rattle.hotel_books.proofs.Names.{IsUntaken, Refusal, reply_of}
use Rattle.hotel_model.proofs.OfTables.Tests.{eq_from, le_from, lt_from, not_lt_from}
use Rattle.keycard_rules.specs.declared.kept.Kept.{Ghosts as KeptOf}

pub not_false : (b : Bool) → not b ≡ false → b ≡ true
not_false true e = refl
not_false false e = sym e

and_second : (a b : Bool) → (a && b) ≡ true → b ≡ true
and_second true b e = e
and_second false b e = absurd (false≢true e)

there_at : (rows : Rows) (number : ℕ) (link : Link) (o : Option Card) → card_at rows number ≡ o → AreWhole rows
    → said_of o false (λ card. same_link card.link link) ≡ true → IsSome (code_place rows link.new_code)
there_at rows number link None e w h = absurd (false≢true h)
there_at rows number link (Some card) e w h =
    let same : card.link.new_code ≡ link.new_code = grind
    (arith, nat_tests, and_second (card.link.old_code == link.old_code) (card.link.new_code == link.new_code) h) in
    subst (λ code. IsSome (code_place rows code)) same (w.cards number card e)

-- in whole rows the new code of a card's link is there
pub link_is_there : (rows : Rows) (number : ℕ) (link : Link)
    → AreWhole rows → has_link_on rows number link ≡ true → IsSome (code_place rows link.new_code)
link_is_there rows number link w h = there_at rows number link (card_at rows number) refl w h

-- a failure that whole rows exclude
pub excluded : {S : Type 0} {K : KeptOf S} {B : BooksOf S} {facts : Rows → Type 0} {start now : S}
    {outcome : Rows → Outcome Change} {source : Stream}
    → SoFar K B true facts start now → (AreWhole (B.rows start) → facts (B.rows start) → ⊥)
    → StepsAs K B outcome start now source source (Refused Store)
excluded {source = source} s h = record {
  goes = λ clean. (s.same clean, (0, omega arith, sym (past-zero source)));
  since = s.since;
  vouched = λ honest k. absurd (false≢true (sym k));
  stays = stays_so s;
  moved = λ honest k. inl refl;
  counted = λ honest w why.
      let clean = s.vouched refl honest in absurd (h (w (s.since.was_clean clean)) (s.facts_hold clean));
  stop = inl (s.stop, s.same);
}

-- an answer that changes nothing, where the checks come to it
pub says : {S : Type 0} {K : KeptOf S} {B : BooksOf S} {facts : Rows → Type 0} {start now : S}
    {outcome : Rows → Outcome Change} {source : Stream} (answer : Reply)
    → is_failed answer ≡ false → SoFar K B true facts start now
    → (facts (B.rows start) → outcome (B.rows start) ≡ said answer)
    → StepsAs K B outcome start now source source answer
says {B = B} {start = start} {now = now} {outcome = outcome} {source = source} answer k s h = record {
  goes = λ clean. said_at (is_failed answer) answer (outcome (B.rows start)) (B.rows start) (B.rows now) source k
      (h (s.facts_hold clean)) (s.same clean);
  since = s.since;
  vouched = λ honest _. s.vouched refl honest;
  stays = stays_so s;
  moved = λ honest e. absurd (false≢true (sym k ∙ e));
  counted = λ honest w why. none_more _ why _ _ (untold answer k) (s.counted honest why);
  stop = inl (s.stop, s.same);
}
  where
    said_at : (b : Bool) (answer : Reply) (o : Outcome Change) (rows later : Rows) (source : Stream)
        → b ≡ false → o ≡ said answer → later ≡ rows → GoesIf b o rows source answer later source
    said_at true answer o rows later source k e same = absurd (false≢true (sym k))
    said_at false answer o rows later source k e same = (
      sym (ap (λ x. x.reply) e),
      same ∙ ap (λ x. made_by x.happens rows) (sym e),
      sym (past-zero source) ∙ ap (λ x. past x.examined source) (sym e),
    )

pub equal : (m n : ℕ) → m ≡ n → (m == n) ≡ true
equal m n e = grind (arith, nat_tests)

pub not_equal : (m n : ℕ) → n < m → (m == n) ≡ false
not_equal m n e = grind (arith, nat_tests)

-- a note of a room that is there, once a day is set, by whether the room has had its lock
by_fit : (rows : Rows) (ahead : List ℕ) (note : Note) (day : ℕ) (row : RoomRow) (had : Bool)
    → rows.day ≡ Some day → room_at rows note.room ≡ Some row → nat_le note.fit row.fit ≡ had
    → outcome_on rows ahead (command.Reported note)
    ≡ unless (needs had NoFit ∷ []) (reported_on rows note (note_at rows note.room note.fit note.count))
unfolding outcome_on
by_fit rows ahead note day row had d r l =
    let comes : Outcome Change = reported_on rows note (note_at rows note.room note.fit note.count) in
    let its : present_fit_on rows note.room ≡ row.fit = ap (λ o. said_of o 0 (λ (x : RoomRow). x.fit)) r in
    ap (λ x. unless (needs (is_some x) NotBegun ∷ needs (is_some (room_at rows note.room)) NoRoom
    ∷ needs (is_fit_on rows note.room note.fit) NoFit ∷ []) comes) d
    ∙ ap (λ x. unless (needs (is_some x) NoRoom ∷ needs (is_fit_on rows note.room note.fit) NoFit ∷ []) comes) r
    ∙ ap (λ n. unless (needs (nat_le note.fit n) NoFit ∷ []) comes) its ∙ ap (λ b. unless (needs b NoFit ∷ []) comes) l

-- a note of a later lock than that of its room
pub later_there : (rows : Rows) (ahead : List ℕ) (note : Note) (day : ℕ) (row : RoomRow)
    → rows.day ≡ Some day → room_at rows note.room ≡ Some row → nat_le note.fit row.fit ≡ false
    → outcome_on rows ahead (command.Reported note) ≡ refused NoFit
later_there rows ahead note day row d r l = by_fit rows ahead note day row false d r l

-- a note of a lock that its room has had
pub reported_there : (rows : Rows) (ahead : List ℕ) (note : Note) (day : ℕ) (row : RoomRow) (kept : Option Note)
    → rows.day ≡ Some day → room_at rows note.room ≡ Some row → nat_le note.fit row.fit ≡ true
    → note_at rows note.room note.fit note.count ≡ kept
    → outcome_on rows ahead (command.Reported note) ≡ reported_on rows note kept
reported_there rows ahead note day row kept d r l n =
    by_fit rows ahead note day row true d r l ∙ ap (λ x. reported_on rows note x) n

-- a note that wasn't taken, by its room's row
untaken_of : (rows : Rows) (note : Note) (row : RoomRow)
    → room_at rows note.room ≡ Some row → reported_on rows note None ≡ untaken_on rows note row
untaken_of rows note row r = ap (λ o. said_of o (refused NoRoom) (untaken_on rows note)) r

-- a note of an earlier lock
pub old_told : (rows : Rows) (note : Note) (row : RoomRow)
    → room_at rows note.room ≡ Some row → (note.fit == row.fit) ≡ false → reported_on rows note None ≡ refused OldFit
old_told rows note row r f =
    untaken_of rows note row r
    ∙ ap (λ b. if b then (if note.count == row.notes - row.before + 1 then told_on rows note note.act
    else refused (Gap (row.notes - row.before + 1))) else refused OldFit) f

-- a later note than the next one of its lock
pub gap_told : (rows : Rows) (note : Note) (row : RoomRow) (taken : ℕ) → room_at rows note.room ≡ Some row
    → (note.fit == row.fit) ≡ true → taken ≡ row.notes - row.before → taken + 1 < note.count
    → reported_on rows note None ≡ refused (Gap (taken + 1))
gap_told rows note row taken r f n l =
    untaken_of rows note row r
    ∙ ap (λ b. if b then (if note.count == row.notes - row.before + 1 then told_on rows note note.act
    else refused (Gap (row.notes - row.before + 1))) else refused OldFit) f
    ∙ ap (λ z. if note.count == z + 1 then told_on rows note note.act else refused (Gap (z + 1))) (sym n)
    ∙ ap (λ b. if b then told_on rows note note.act else refused (Gap (taken + 1))) (not_equal note.count (taken + 1) l)

-- the next note's check, by what is seen of it
abbrev next_by : (present taken_before gap : Bool) → ℕ → Result (Unit {0}) Refusal
next_by present taken_before gap next =
    if present
    then (if taken_before then Err Store else if gap then Err (Gap next) else Ok tt)
    else Err OldFit

only_err : {A : Type 0} {a b : Refusal} → ◌≡◌ {A = Result A Refusal} (Err a) (Err b) → a ≡ b
only_err e = cc

-- a note that wasn't taken and isn't the next one of its room's present lock
pub not_next : {S : Type 0} {K : KeptOf S} {B : BooksOf S} {facts : Rows → Type 0} {start now : S}
    {outcome : Rows → Outcome Change} {source : Stream} {why : Refusal} (r : Result Reply Refusal)
    → IsErrAnd r (λ x. x ≡ why) → (note : Note) (row : RoomRow)
    → next_checked note row ≡ Err why → 1 ≤ note.count → SoFar K B true facts start now
    → (facts (B.rows start) → IsUntaken note row (B.rows start)
    × (outcome (B.rows start) ≡ reported_on (B.rows start) note None))
    → StepsAs K B outcome start now source source (reply_of r)
not_next {K = K} {B = B} {start = start} {now = now} {outcome = outcome} {source = source} {why = why} r p note row is
    least s known = subst (λ answer. StepsAs K B outcome start now source source answer) (sym (passed_on r why p))
    (by (note.fit == row.fit) (nat_le note.count (row.notes - row.before))
    (nat_lt (row.notes - row.before + 1) note.count) refl refl refl is)
  where
    taken : ℕ
    taken = row.notes - row.before

    so : {other : Refusal} → other ≡ why → StepsAs K B outcome start now source source (Refused other)
        → StepsAs K B outcome start now source source (Refused why)
    so e t = subst (λ x. StepsAs K B outcome start now source source (Refused x)) e t

    by : (present taken_before gap : Bool) → (note.fit == row.fit) ≡ present → nat_le note.count taken ≡ taken_before
        → nat_lt (taken + 1) note.count ≡ gap
        → next_by present taken_before gap (taken + 1) ≡ Err why
        → StepsAs K B outcome start now source source (Refused why)
    by false taken_before gap f p g e = so (only_err e) (refuses OldFit refl s
        (λ k. (known k).1 ∙ old_told (B.rows start) note row (known k).0.0 f))
    by true true gap f p g e = so (only_err e) (excluded s (λ w k. false≢true
        (subst IsSome (ap (λ z. note_at (B.rows start) note.room z note.count) (sym (eq_from note.fit row.fit f))
        ∙ (known k).0.1) (w.noted note.room note.count row (known k).0.0 least (le_from note.count taken p)))))
    by true false true f p g e = so (only_err e) (refuses (Gap (taken + 1)) refl s
        (λ k. (known k).1 ∙ gap_told (B.rows start) note row taken (known k).0.0 f refl
        (lt_from (taken + 1) note.count g)))
    by true false false f p g e = cc

not_past : (n m : ℕ) → nat_le n m ≡ false → m < n
not_past n m e = grind (arith, nat_tests)

-- the next one, by its count
pub is_next : (note : Note) (row : RoomRow) → next_checked note row ≡ Ok tt → ((note.fit == row.fit) ≡ true)
    × (row.notes - row.before < note.count) × (note.count ≤ row.notes - row.before + 1)
is_next note row e = by (note.fit == row.fit) (nat_le note.count (row.notes - row.before))
    (nat_lt (row.notes - row.before + 1) note.count) refl refl refl e
  where
    taken : ℕ
    taken = row.notes - row.before

    by : (present taken_before gap : Bool) → (note.fit == row.fit) ≡ present → nat_le note.count taken ≡ taken_before
        → nat_lt (taken + 1) note.count ≡ gap
        → next_by present taken_before gap (taken + 1) ≡ Ok tt
        → ((note.fit == row.fit) ≡ true) × (taken < note.count) × (note.count ≤ taken + 1)
    by false taken_before gap f p g e = cc
    by true true gap f p g e = cc
    by true false true f p g e = cc
    by true false false f p g e = (f, not_past note.count taken p, not_lt_from (taken + 1) note.count g)

-- the next note of a room comes to what it says
pub next_told : (rows : Rows) (note : Note) (row : RoomRow) (what : Act) → next_checked note row ≡ Ok tt
    → room_at rows note.room ≡ Some row → what ≡ note.act → reported_on rows note None ≡ told_on rows note what
next_told rows note row what checked r a =
    let taken = row.notes - row.before in
    let n = is_next note row checked in
    let m : note.count ≡ taken + 1 = omega (arith, n.1, n.2) in
    untaken_of rows note row r
    ∙ ap (λ b. if b then (if note.count == taken + 1 then told_on rows note note.act else refused (Gap (taken + 1)))
    else refused OldFit) n.0
    ∙ ap (λ b. if b then told_on rows note note.act else refused (Gap (taken + 1))) (equal note.count (taken + 1) m)
    ∙ ap (λ x. told_on rows note x) (sym a)
