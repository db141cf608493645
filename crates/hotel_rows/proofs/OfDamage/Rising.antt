-- A pass over keys, each beside the next, and one that counts.
use Rattle.std.proofs.Common.{◌≡◌, ℕ, ◌+◌, ◌-◌, ◌<◌, ◌≤◌, true, ◌&&◌, List, [], ◌∷◌, length, drop, get_or, refl, sym}
use Rattle.std.proofs.Common.{ap, subst, ◌∙◌, arith}
use Rattle.std.specs.Ordering.{is_lt}
use Rattle.std.specs.declared.cmp.Ordering.{Ordering}
use Rattle.std.proofs.lemmas.List.{drop_more, length-drop}
use Rattle.hotel_model.specs.SoundRooms.{are_in_order}

module _ {K : Type 0} (cmp : K → K → Ordering) where
  pub next_in_order : (d : K) (keys : List K) (i : ℕ) → 0 < i → i < length keys → are_in_order cmp (drop (i - 1) keys)
      ≡ (is_lt (cmp (get_or keys (i - 1) d) (get_or keys i d)) && are_in_order cmp (drop i keys))
  next_in_order d keys i low here =
      let one : drop (i - 1) keys ≡ get_or keys (i - 1) d ∷ drop i keys =
      subst (λ n. drop (i - 1) keys ≡ get_or keys (i - 1) d ∷ drop n keys) (omega arith)
      (drop_more keys (i - 1) d (omega arith)) in
      let two : drop i keys ≡ get_or keys i d ∷ drop (i + 1) keys = drop_more keys i d here in
      ap (are_in_order cmp) one
      ∙ ap (λ ks. are_in_order cmp (get_or keys (i - 1) d ∷ ks)) two
      ∙ sym (ap (λ ks. is_lt (cmp (get_or keys (i - 1) d) (get_or keys i d)) && are_in_order cmp ks) two)

  pub short_in_order : (keys : List K) → length keys ≤ 1 → are_in_order cmp keys ≡ true
  short_in_order [] h = refl
  short_in_order (x ∷ []) h = refl
  short_in_order (x ∷ y ∷ zs) h = absurd (omega (arith, h))

  pub last_in_order : (keys : List K) (i : ℕ) → length keys ≤ i → are_in_order cmp (drop (i - 1) keys) ≡ true
  last_in_order keys i h =
      short_in_order (drop (i - 1) keys) (subst (λ n. n ≤ 1) (sym (length-drop (i - 1) keys)) (omega (arith, h)))
