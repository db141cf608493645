-- The notes of a room, as a part of all notes in order.
use Rattle.std.proofs.Common.{◌≤◌, ◌&&◌, Option, Some, None, ℕ, ◌≡◌, Bool, true, false, cond, List, [], ◌∷◌, map, refl}
use Rattle.std.proofs.Common.{ap, sym, ◌∙◌, ◌==◌, ◌<◌, ◌^◌, not, is_le, is_lt, nat_cmp, arith, Ordering, Less, Equal}
use Rattle.std.proofs.Common.{Greater}
use Rattle.hotel_books.proofs.Names.{lookup, match_ordering, Included, is_at, insert_entry, entries_between}
use Rattle.hotel_books.proofs.Names.{range_contains, ranks, MatchOrdering, remove_entry, Note, pair_cmp, when, notes_at}
use Rattle.hotel_memory.specs.Tables.{HaveCounts}
use Rattle.hotel_model.proofs.OfTables.Tests.{not_higher}
use Rattle.hotel_memory.proofs.OfTables.CardsInside.{part_by}
use Rattle.hotel_books.proofs.OfTables.MapEntries.{at_is, pair_is}

pub counts_removed : (es : List ((ℕ × ℕ) × Note)) (key : ℕ × ℕ)
    → HaveCounts es → HaveCounts (remove_entry (is_at (pair_cmp key)) es)
counts_removed [] key h = tt
counts_removed (e ∷ es) key h = removed_by (is_at (pair_cmp key) e.0) h.0 h.1 (counts_removed es key h.1)
  where
    removed_by : (b : Bool) → e.0.1 < 2 ^ 32 → HaveCounts es → HaveCounts (remove_entry (is_at (pair_cmp key)) es)
        → HaveCounts (cond b es (e ∷ remove_entry (is_at (pair_cmp key)) es))
    removed_by true i all ih = all
    removed_by false i all ih = (i, ih)

pub counts_added : (es : List ((ℕ × ℕ) × Note)) (key : ℕ × ℕ) (note : Note)
    → HaveCounts es → key.1 < 2 ^ 32 → HaveCounts (insert_entry pair_cmp es key note)
counts_added [] key note h n = (n, tt)
counts_added (e ∷ es) key note h n = added_by (pair_cmp key e.0) h (counts_added es key note h.1 n)
  where
    added_by : (o : Ordering) → HaveCounts (e ∷ es) → HaveCounts (insert_entry pair_cmp es key note) → HaveCounts
        (match_ordering o ((key, note) ∷ e ∷ es) ((e.0, note) ∷ es) (e ∷ insert_entry pair_cmp es key note))
    added_by Less h ih = (n, h)
    added_by Equal h ih = h
    added_by Greater h ih = (h.0, ih)

part_more : (b : Bool) (e : (ℕ × ℕ) × Note) (es : List ((ℕ × ℕ) × Note)) (ns : List Note)
    → ns ≡ map (λ (p : (ℕ × ℕ) × Note). p.1) es
    → when b (λ notes. e.1 ∷ notes) ns ≡ map (λ (p : (ℕ × ℕ) × Note). p.1) (cond b (e ∷ es) es)
part_more true e es ns h = ap (λ rest. e.1 ∷ rest) h
part_more false e es ns h = h

zero_first : (o : Ordering) (n : ℕ) → MatchOrdering o (0 < n) (0 ≡ n) (n < 0) → is_le o ≡ true
zero_first Less n m = refl
zero_first Equal n m = refl
zero_first Greater n m = absurd (omega (arith, m))

most_last : (o : Ordering) (n : ℕ) → MatchOrdering o (4294967295 < n) (4294967295 ≡ n) (n < 4294967295)
    → n < 2 ^ 32 → not (is_lt o) ≡ true
most_last Less n m h = absurd (omega (arith, m, h))
most_last Equal n m h = refl
most_last Greater n m h = refl

-- what lies between a room's least and greatest number is of the room
in_all : (room : ℕ) (e : ℕ × ℕ)
    → e.1 < 2 ^ 32 → range_contains pair_cmp (Included (room, 0)) (Included (room, 4294967295)) e ≡ (e.0 == room)
in_all room e i = part_by (nat_cmp room e.0) (nat_cmp 0 e.1) (nat_cmp 4294967295 e.1) (zero_first (nat_cmp 0 e.1) e.1
    (ranks 0 e.1)) (most_last (nat_cmp 4294967295 e.1) e.1 (ranks 4294967295 e.1) i) ∙ at_is room e.0

-- the entries of a room
abbrev pub part : ℕ → List ((ℕ × ℕ) × Note) → List ((ℕ × ℕ) × Note)
part room es = entries_between pair_cmp (Included (room, 0)) (Included (room, 4294967295)) es

pub part_of_room : (room : ℕ) (es : List ((ℕ × ℕ) × Note))
    → HaveCounts es → notes_at es room ≡ map (λ (p : (ℕ × ℕ) × Note). p.1) (part room es)
part_of_room room [] h = refl
part_of_room room (e ∷ es) h =
    part_more (e.0.0 == room) e (part room es) (notes_at es room) (part_of_room room es h.1)
    ∙ ap (λ b. map (λ (p : (ℕ × ℕ) × Note). p.1) (cond b (e ∷ part room es) (part room es))) (sym (in_all room e.0 h.0))

high_by : (b c : Bool) (x : Note) (found : Option Note) → c ≡ false → found ≡ None → cond (b && c) (Some x) found ≡ None
high_by true true x found c e = absurd (let w : ◌≡◌ {A = Bool} true false = c in cc)
high_by true false x found c e = e
high_by false c' x found c e = e

-- no note has a number of more than 32 bits
pub none_high : (es : List ((ℕ × ℕ) × Note)) (room number : ℕ)
    → HaveCounts es → 2 ^ 32 ≤ number → lookup (is_at (pair_cmp (room, number))) es ≡ None
none_high [] room number h l = refl
none_high (e ∷ es) room number h l =
    let low = h.0 in
    ap (λ b. cond b (Some e.1) (lookup (is_at (pair_cmp (room, number))) es)) (pair_is room number e.0)
    ∙ high_by (e.0.0 == room) (e.0.1 == number) e.1 (lookup (is_at (pair_cmp (room, number))) es)
    (not_higher e.0.1 number (omega arith)) (none_high es room number h.1 l)
