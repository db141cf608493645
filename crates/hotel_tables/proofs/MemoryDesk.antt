-- A desk made in memory has a desk's tables, since memory is always clean and never fails as a disk does.
use Rattle.std.proofs.Common.{ℕ, ◌+◌, ◌-◌, ◌≡◌, ◌≤◌, ◌∙◌, true, sym, ap, subst, length, take, arith, inl, inr, IsTrue}
use Rattle.sqlite_trees.specs.declared.memory.MemStore.{MemStore}
use Rattle.sqlite.specs.Held.{Held, state}
use Rattle.sqlite.specs.Schema.{Schema}
use Rattle.sqlite.specs.State.{Survives}
use Rattle.sqlite.specs.Steps.{over_memory, IsEmpty}
use Rattle.sqlite.proofs.Callers.{memory_is_clean}
use Rattle.hotel_statements.specs.Schema.{first_schema, desk_schema, with_indexes}
use Rattle.hotel_statements.specs.Books.{IsBooks}
use Rattle.hotel_statements.specs.NewDesk.{IsEmptyDesk}
use Rattle.hotel_statements.specs.SameSchema.{same_prefix}
use Rattle.hotel_statements.proofs.SameSchema.{prefix_is, prefix_is_first, prefix_is_with, with_is_prefix, count_with}
use Rattle.hotel_statements.proofs.SameSchema.{first_is_prefix, count_tables, count_indexes}

pub memory_has_desk : (old new : Held MemStore) → IsEmpty (state over_memory old)
    → Survives (state over_memory old) (state over_memory new) IsEmptyDesk → IsBooks (state over_memory new)
    → (state over_memory new).now.schema ≡ desk_schema
memory_has_desk old new empty survives books = (books.desk (memory_is_clean new, open_yet)).schema
  where
    open_yet : IsTrue (state over_memory new).is_open
    open_yet = elim (survives.closes (memory_is_clean new) empty.0.is_open) [
      | inl is_open ↦ is_open
      | inr more ↦ let h : 1 ≤ 0 = more in absurd (omega (arith, h))
    ]

-- ---- the schemas of two connections, the second of which is a desk's

-- the first version
pub prefix_is_shown : (a b shown desk : Schema) → a ≡ shown → b ≡ desk → desk ≡ desk_schema
    → same_prefix 8 5 a b ≡ true → shown ≡ first_schema
prefix_is_shown a b shown desk p q r e =
    sym p ∙ prefix_is 8 5 a b e
    ∙ ap (λ (s : Schema). record s { tables = take 8 s.tables; indexes = take 5 s.indexes }) (q ∙ r) ∙ prefix_is_first

pub first_is_taken : (a b shown desk : Schema) → a ≡ shown → b ≡ desk → desk ≡ desk_schema
    → shown ≡ first_schema → same_prefix 8 5 a b ≡ true
first_is_taken a b shown desk p q r s =
    subst (λ x. same_prefix 8 5 x b ≡ true) (sym (p ∙ s))
    (subst (λ x. same_prefix 8 5 first_schema x ≡ true) (sym (q ∙ r)) first_is_prefix)

-- the nine tables, with so many of our indexes
pub prefix_is_nine : (a b shown desk : Schema) (indexes : ℕ) → a ≡ shown → b ≡ desk → desk ≡ desk_schema
    → 7 ≤ indexes → indexes ≤ 10 → same_prefix 9 indexes a b ≡ true → shown ≡ with_indexes (indexes - 7)
prefix_is_nine a b shown desk indexes p q r low high e =
    let count : 7 + (indexes - 7) ≡ indexes = omega (arith, low) in
    sym p ∙ prefix_is 9 indexes a b e
    ∙ ap (λ (s : Schema). record s { tables = take 9 s.tables; indexes = take indexes s.indexes }) (q ∙ r)
    ∙ ap (λ n. record desk_schema { tables = take 9 desk_schema.tables; indexes = take n desk_schema.indexes })
    (sym count) ∙ prefix_is_with (indexes - 7) (omega (arith, high))

pub nine_is_taken : (a b shown desk : Schema) → a ≡ shown → b ≡ desk → desk ≡ desk_schema → (count : ℕ)
    → shown ≡ with_indexes count → same_prefix 9 (length a.indexes) a b ≡ true
nine_is_taken a b shown desk p q r count s =
    subst (λ (x : Schema). same_prefix 9 (length x.indexes) x b ≡ true) (sym (p ∙ s))
    (subst (λ (x : Schema). same_prefix 9 (length (with_indexes count).indexes) (with_indexes count) x ≡ true)
    (sym (q ∙ r)) (with_is_prefix count))

pub nine_has : (a shown : Schema) → a ≡ shown → (count : ℕ) → shown ≡ with_indexes count
    → (7 ≤ length a.indexes) × (length a.indexes ≤ 10)
nine_has a shown p count s =
    subst (λ (x : Schema). (7 ≤ length x.indexes) × (length x.indexes ≤ 10)) (sym (p ∙ s)) (count_with count)

-- a desk has so many tables and indexes
pub has_tables : (b desk : Schema) → b ≡ desk → desk ≡ desk_schema → length b.tables ≡ 9
has_tables b desk q r = ap (λ (s : Schema). length s.tables) (q ∙ r) ∙ count_tables

pub has_indexes : (b desk : Schema) → b ≡ desk → desk ≡ desk_schema → length b.indexes ≡ 10
has_indexes b desk q r = ap (λ (s : Schema). length s.indexes) (q ∙ r) ∙ count_indexes
