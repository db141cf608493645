-- The keys of a desk's tables rise.
use Rattle.std.proofs.Common.{◌≡◌, List, [], ◌∷◌, Less, Ordering, nat_cmp}
use Rattle.std.specs.List.{AllByRecursion}
use Rattle.std.specs.Map.{keys_of}
use Rattle.std.specs.Cmp.Lexicographic.{slice_cmp}
use Rattle.std.proofs.lemmas.Cmp.{nat_cmp_total, nat_list_cmp_total}
use Rattle.sqlite.specs.Tree.{Trees, IsAscending}
use Rattle.hotel_model.specs.Words.{pair_cmp}
use Rattle.hotel_model.proofs.OfTables.Pairs.{pair_cmp_total}
use Rattle.hotel_model.proofs.OfTables.KeysInOrder.{AllAfter, InOrder}
use Rattle.hotel_statements.specs.declared.version.Version.{Version}
use Rattle.hotel_statements.specs.Tables.{AreTables, AreTablesOf, by_key, rows_in, fits_in, bare_rooms_in}
use Rattle.hotel_statements.proofs.Perm.{sort_rises}
use Rattle.hotel_statements.proofs.Keyed.{key_total}

pub rooms_rise : {version : Version} (db : Trees)
    → AreTablesOf version db → IsAscending (λ a b. by_key nat_cmp a b ≡ Less) (bare_rooms_in db)
rooms_rise db t = sort_rises (by_key nat_cmp) (key_total nat_cmp_total) _ t.room.apart

pub stays_rise : (db : Trees) → AreTables db → IsAscending (λ a b. by_key nat_cmp a b ≡ Less) (rows_in db).stays
stays_rise db t = sort_rises (by_key nat_cmp) (key_total nat_cmp_total) _ t.stay.apart

pub codes_rise : (db : Trees) → AreTables db → IsAscending (λ a b. by_key nat_cmp a b ≡ Less) (rows_in db).codes
codes_rise db t = sort_rises (by_key nat_cmp) (key_total nat_cmp_total) _ t.code.apart

pub cards_rise : (db : Trees) → AreTables db → IsAscending (λ a b. by_key nat_cmp a b ≡ Less) (rows_in db).cards
cards_rise db t = sort_rises (by_key nat_cmp) (key_total nat_cmp_total) _ t.card.apart

pub insides_rise : (db : Trees) → AreTables db → IsAscending (λ a b. pair_cmp a b ≡ Less) (rows_in db).inside
insides_rise db t = sort_rises pair_cmp pair_cmp_total _ t.inside.apart

pub kinds_rise : (db : Trees) → AreTables db → IsAscending (λ a b. slice_cmp nat_cmp a b ≡ Less) (rows_in db).kinds
kinds_rise db t = sort_rises (slice_cmp nat_cmp) nat_list_cmp_total _ t.kind.apart

pub fits_rise : (db : Trees) → AreTables db → IsAscending (λ a b. by_key pair_cmp a b ≡ Less) (fits_in db)
fits_rise db t = sort_rises (by_key pair_cmp) (key_total pair_cmp_total) _ t.fit.apart

after : {K V : Type 0} (cmp : K → K → Ordering) (e : K × V) (es : List (K × V))
    → AllByRecursion (λ b. by_key cmp e b ≡ Less) es → AllAfter cmp e.0 (keys_of es)
after cmp e [] all = tt
after cmp e (x ∷ es) all = (all.0, after cmp e es all.1)

pub keys_rise : {K V : Type 0} (cmp : K → K → Ordering) (es : List (K × V))
    → IsAscending (λ a b. by_key cmp a b ≡ Less) es → InOrder cmp (keys_of es)
keys_rise cmp [] up = tt
keys_rise cmp (e ∷ es) up = (after cmp e es up.0, keys_rise cmp es up.1)
