-- The records that a reader came to are all the records of its text, and no others.
use Rattle.std.proofs.Common.{◌≡◌, ◌≤◌, ◌+◌, ℕ, zero, suc, Bool, true, false, List, [], ◌∷◌, length, Some, None, arith}
use Rattle.std.proofs.Common.{ap, refl}
use Rattle.csv.specs.Machine.{Read, next_record, step, is_end, ends_at_end, fields_after, field_after}
use Rattle.csv.specs.{Reading.AreRecords, Reading.Reached, Reading.records_from, Reading.records}
use Rattle.csv.specs.{declared.parser.Config.Config, declared.parser.State.State}
use Rattle.csv.specs.declared.parser.State.TheVariants as st

-- the bytes after a record are no more than those before it
next_record-no_longer : (cfg : Config) (s : State) (fields : List (List ℕ)) (field bytes : List ℕ) (p : Read)
    → next_record cfg s fields field bytes ≡ Some p → length p.2 ≤ length bytes
unfolding next_record
next_record-no_longer cfg s fields field [] p e = at_end (ends_at_end s) refl
  where
    at_end : (b : Bool) → ends_at_end s ≡ b → length p.2 ≤ 0
    at_end true q = let t = rw q at e in let n : p.2 ≡ [] = cc t in omega (arith, ap length n)
    at_end false q = let t = rw q at e in cc t
next_record-no_longer cfg s fields field (c ∷ rest) p e =
    by (is_end (step cfg s c).1) refl (next_record-no_longer cfg (step cfg s c).0 _ _ rest p)
  where
    by : (b : Bool) → is_end (step cfg s c).1 ≡ b
        → (next_record cfg (step cfg s c).0 (fields_after (step cfg s c).1 fields field) (field_after (step cfg s c).1 c
        field) rest ≡ Some p → length p.2 ≤ length rest)
        → length p.2 ≤ suc (length rest)
    by true q more = let t = rw q at e in let n : p.2 ≡ rest = cc t in omega (arith, ap length n)
    by false q more = let t = more (rw q at e) in omega arith

-- a record takes a byte, where there is one
next_record-shorter : (cfg : Config) (s : State) (c : ℕ) (rest : List ℕ) (p : Read)
    → next_record cfg s [] [] (c ∷ rest) ≡ Some p → length p.2 ≤ length rest
unfolding next_record
next_record-shorter cfg s c rest p e = by (is_end (step cfg s c).1) refl
  where
    by : (b : Bool) → is_end (step cfg s c).1 ≡ b → length p.2 ≤ length rest
    by true q = let t = rw q at e in let n : p.2 ≡ rest = cc t in omega (arith, ap length n)
    by false q = next_record-no_longer cfg (step cfg s c).0 _ _ rest p (rw q at e)

-- after a record at the end of the text there is none
records-at_end : (cfg : Config) (s s2 : State) (p : Read) (rows : List (List (List ℕ))) (left : List ℕ)
    → next_record cfg s [] [] [] ≡ Some p
    → Reached cfg p.1 p.2 rows s2 left → length rows ≤ 0
unfolding next_record Reached
records-at_end cfg s s2 p [] left e h = omega arith
records-at_end cfg s s2 p (r ∷ rows) left e h = by (ends_at_end s) refl
  where
    by : (b : Bool) → ends_at_end s ≡ b → suc (length rows) ≤ 0
    by true q =
        let t = rw q at e in
        let state : p.1 ≡ st.StartRecord = cc t in
        let none : p.2 ≡ [] = cc t in
        let next = rw (state, none) at h.1 in
        cc next
    by false q = let t = rw q at e in cc t

-- a text has at most one record more than it has bytes
records-few : (cfg : Config) (rows : List (List (List ℕ))) (s s2 : State) (bytes left : List ℕ)
    → Reached cfg s bytes rows s2 left → length rows ≤ length bytes + 1
unfolding Reached
records-few cfg [] s s2 bytes left h = omega arith
records-few cfg (r ∷ rows) s s2 [] left h = let none = records-at_end cfg s s2 h.0 rows left h.1 h.3 in omega arith
records-few cfg (r ∷ rows) s s2 (c ∷ bytes) left h =
    let fewer = next_record-shorter cfg s c bytes h.0 h.1 in
    let more = records-few cfg rows h.0.1 s2 h.0.2 left h.3 in
    omega arith

-- as many reads as there are records, or more, give them all
records_from-reached : (cfg : Config) (rows : List (List (List ℕ))) (s s2 : State) (bytes left : List ℕ) (n : ℕ)
    → Reached cfg s bytes rows s2 left
    → next_record cfg s2 [] [] left ≡ None → length rows ≤ n → rows ≡ records_from cfg n s bytes
unfolding Reached records_from
records_from-reached cfg [] s s2 bytes left zero h e l = refl
records_from-reached cfg [] s s2 bytes left (suc n) h e l = rw (h.0, h.1, e) refl
records_from-reached cfg (r ∷ rows) s s2 bytes left zero h e l = absurd (omega arith)
records_from-reached cfg (r ∷ rows) s s2 bytes left (suc n) h e l =
    let more = records_from-reached cfg rows h.0.1 s2 h.0.2 left n h.3 e (omega arith) in
    rw (h.1) (cc (h.2, more))

-- the records of a text are those that its definition as a list gives
pub AreRecords-records : (cfg : Config) (bytes : List ℕ) (rows : List (List (List ℕ)))
    → AreRecords cfg st.StartRecord bytes rows → rows ≡ records cfg bytes
AreRecords-records cfg bytes rows h =
    records_from-reached cfg rows st.StartRecord h.0 bytes h.1 (length bytes + 1) h.2 h.3
    (records-few cfg rows st.StartRecord h.0 bytes h.1 h.2)
