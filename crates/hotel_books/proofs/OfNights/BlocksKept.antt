-- Which blocks are kept: those of which a night is taken.
use Rattle.std.proofs.Common.{ℕ, ◌≡◌, Bool, true, false, cond, List, [], ◌∷◌, zero, suc, length, replicate}
use Rattle.std.proofs.Common.{bytes_eq, arith, subst, sym, refl, Ordering, Less, Equal, Greater}
use Rattle.hotel_books.proofs.Names.{false≢true, match_ordering, insert_entry, set_value, remove_entry, HasNoEmptyBlock}
use Rattle.hotel_books.proofs.Names.{HasTakenNight}

-- counts that aren't all 0
pub taken_unless_zeros : (n : ℕ) (xs : List ℕ)
    → length xs ≡ n → bytes_eq xs (replicate {A = ℕ} n 0) ≡ false → HasTakenNight xs
taken_unless_zeros zero [] l e = absurd (false≢true (sym e))
taken_unless_zeros zero (x ∷ xs) l e = absurd (omega (arith, l))
taken_unless_zeros (suc n) [] l e = absurd (omega (arith, l))
taken_unless_zeros (suc n) (zero ∷ xs) l e =
    let rest = taken_unless_zeros n xs (omega (arith, l)) e in (suc rest.0, rest.1)
taken_unless_zeros (suc n) (suc x ∷ xs) l e = (0, omega arith)

-- a block's counts are others, of which one is taken
pub kept_set : (test : List ℕ × ℕ → Bool) (blocks : List ((List ℕ × ℕ) × List ℕ)) (counts : List ℕ)
    → HasTakenNight counts → HasNoEmptyBlock blocks → HasNoEmptyBlock (set_value test blocks counts)
kept_set test [] counts taken h = tt
kept_set test (e ∷ es) counts taken h = by (test e.0) (kept_set test es counts taken h.1)
  where
    by : (b : Bool) → HasNoEmptyBlock (set_value test es counts)
        → HasNoEmptyBlock (cond b ((e.0, counts) ∷ es) (e ∷ set_value test es counts))
    by true ih = (taken, h.1)
    by false ih = (h.0, ih)

-- a block is added, of which a night is taken
pub kept_added : (cmp : List ℕ × ℕ → List ℕ × ℕ → Ordering)
    (blocks : List ((List ℕ × ℕ) × List ℕ)) (key : List ℕ × ℕ) (counts : List ℕ)
    → HasTakenNight counts → HasNoEmptyBlock blocks → HasNoEmptyBlock (insert_entry cmp blocks key counts)
kept_added cmp [] key counts taken h = (taken, tt)
kept_added cmp (e ∷ es) key counts taken h = by (cmp key e.0) (kept_added cmp es key counts taken h.1)
  where
    by : (o : Ordering) → HasNoEmptyBlock (insert_entry cmp es key counts) → HasNoEmptyBlock (match_ordering o
        ((key, counts) ∷ e ∷ es) ((e.0, counts) ∷ es) (e ∷ insert_entry cmp es key counts))
    by Less ih = (taken, h)
    by Equal ih = (taken, h.1)
    by Greater ih = (h.0, ih)

-- a block is gone, whatever its counts were last
pub kept_removed : (test : List ℕ × ℕ → Bool) (blocks : List ((List ℕ × ℕ) × List ℕ)) (counts : List ℕ)
    → HasNoEmptyBlock blocks → HasNoEmptyBlock (remove_entry test (set_value test blocks counts))
kept_removed test [] counts h = tt
kept_removed test (e ∷ es) counts h = by (test e.0) refl (kept_removed test es counts h.1)
  where
    by : (b : Bool) → test e.0 ≡ b → HasNoEmptyBlock (remove_entry test (set_value test es counts))
        → HasNoEmptyBlock (remove_entry test (cond b ((e.0, counts) ∷ es) (e ∷ set_value test es counts)))
    by true q ih = subst (λ t. HasNoEmptyBlock (cond t es ((e.0, counts) ∷ remove_entry test es))) (sym q) h.1
    by false q ih =
        subst (λ t. HasNoEmptyBlock
        (cond t (set_value test es counts) (e ∷ remove_entry test (set_value test es counts)))) (sym q)
        (h.0, ih)
