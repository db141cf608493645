-- Bytes that went in two pieces.
use Rattle.std.proofs.Common.{◌≡◌, ℕ, ◌+◌, ◌-◌, ◌<◌, ◌≤◌, List, [], ◌∷◌, ◌++◌, get_or, append_assoc, append-nil}
use Rattle.std.proofs.Common.{length-append, take-append-drop, length, take, drop, sym, ap, subst, arith, Option}
use Rattle.std.proofs.Common.{length-drop, ◌∙◌}
use Rattle.std.proofs.lemmas.List.{take_rest, take_more, take-append-le}
use Rattle.std.proofs.lemmas.List.Concat.{flat_map-append}
use Rattle.std.proofs.Math.Seq.{take-append-add}
use Rattle.std.specs.Prelude.{Result, Ok, Err, OnErr}
use Rattle.std.specs.Borrow.{Bor}
use Rattle.hotel_streams.specs.Bytes.{AppendsPrefix, joined}
use Rattle.std.specs.Io.KnownBytes.{Appends}
use Rattle.std.proofs.KnownBytes.{Appends-trans}
use lib.Seq.{take-add}

-- first a prefix of a text, then more of it
pub appended_next : (a b c : Option (List ℕ)) (bs : List ℕ) (n m : ℕ) → n ≤ length bs
    → Appends a b (take n bs) → m ≤ length (take (length bs - n) (drop n bs))
    → Appends b c (take m (take (length bs - n) (drop n bs)))
    → (n + m ≤ length bs) × Appends a c (take (n + m) bs)
appended_next a b c bs n m within first fits next =
    let same = take_rest bs n in
    let fits_rest : m ≤ length bs - n = subst (λ (k : ℕ). m ≤ k) (ap length same ∙ length-drop n bs) fits in (
      omega arith,
      subst (Appends a c) (sym (take-add n m bs))
          (Appends-trans a b c _ _ first (subst (λ (l : List ℕ). Appends b c (take m l)) same next)),
    )

pub on_err : {A E P : Type 0} (r : Result A E) → P → OnErr r P
on_err (Ok a) p = tt
on_err (Err e) p = p

-- parts that went, and then a prefix of the next one
pub prefix_next : (a b c : Option (List ℕ)) (done part rest : List ℕ)
    → Appends a b done → AppendsPrefix b c part → AppendsPrefix a c ((done ++ part) ++ rest)
prefix_next a b c done part rest first (n, within, next) =
    let whole : (done ++ part) ++ rest ≡ done ++ (part ++ rest) = append_assoc done part rest in
    let cut : take (length done + n) ((done ++ part) ++ rest) ≡ done ++ take n part =
    ap (take (length done + n)) whole ∙ take-append-add done (part ++ rest) n
    ∙ ap (λ l. done ++ l) (take-append-le n part rest within) in (
      length done + n,
      simp length-append (omega arith),
      subst (Appends a c) (sym cut) (Appends-trans a b c done (take n part) first next),
    )

pub parts_prefix : (a b c : Option (List ℕ)) (parts : List (Bor (List ℕ))) (i : ℕ) (d : Bor (List ℕ))
    → i < length parts → Appends a b (joined (take i parts)) → AppendsPrefix b c (get_or parts i d).now
    → AppendsPrefix a c (joined parts)
parts_prefix a b c parts i d h first next =
    let rest = joined (drop (i + 1) parts) in
    let more : joined (take (i + 1) parts) ≡ joined (take i parts) ++ (get_or parts i d).now =
    ap joined (take_more parts i d h)
    ∙ flat_map-append (λ (p : Bor (List ℕ)). p.now) (take i parts) (get_or parts i d ∷ [])
    ∙ ap (λ l. joined (take i parts) ++ l) (append-nil (get_or parts i d).now) in
    let whole : joined parts ≡ (joined (take i parts) ++ (get_or parts i d).now) ++ rest =
    ap joined (sym (take-append-drop (i + 1) parts))
    ∙ flat_map-append (λ (p : Bor (List ℕ)). p.now) (take (i + 1) parts) (drop (i + 1) parts)
    ∙ ap (λ l. l ++ rest) more in
    subst (AppendsPrefix a c) (sym whole)
    (prefix_next a b c (joined (take i parts)) (get_or parts i d).now rest first next)
