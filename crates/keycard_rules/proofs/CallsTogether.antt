-- Calls that were made one after the other.
use Rattle.std.proofs.Common.{ℕ, ◌≡◌, ◌+◌, true, List, [], ◌∷◌, Option, Some, None}
use Rattle.std.proofs.Common.{arith, refl, sym, ◌∙◌, zero, suc, ◌-◌, ◌^◌, min, subst, ap, ◌++◌, IsSome}
use Rattle.keycard_rules.specs.declared.issued.LookFault.{LookFault}
use Rattle.keycard_rules.specs.{declared.kept.Kept.Ghosts as KeptOf, Rise.counted_on, Rise.one_of, Rise.times}
use Rattle.keycard_rules.specs.{Leaves.Leaves}
use Rattle.keycard_rules.specs.Calls.{Passes, any_answers, last_answers, LeaveAll, CallsLeave}
use Rattle.keycard_rules.specs.Calls.{ShutCallsFail}
use Rattle.keycard_rules.proofs.Sinces.{since_refl, since_then, stays_refl, stays_then}

-- failures that were counted one after the other
pub counted_join : (n m a b c : ℕ) → b ≡ counted_on n a → c ≡ counted_on m b → c ≡ counted_on (n + m) a
counted_join zero m a b c p q =
    let e : zero + m ≡ m = omega arith in rw e (q ∙ ap (counted_on m) p)
counted_join (suc n) zero a b c p q =
    let e : suc n + zero ≡ suc n = omega arith in rw e (q ∙ p)
counted_join (suc n) (suc m) a b c p q =
    let e : suc n + suc m ≡ suc (n + suc m) = omega arith in
    let r : b ≡ min (a + suc n) (2 ^ 64 - 1) = p in
    let t : c ≡ min (b + suc m) (2 ^ 64 - 1) = q in
    rw e (grind (arith, r, t))

-- answered calls before one that reported this
pub counted_told : (told : Option LookFault) (why : LookFault) (a b c : ℕ)
    → b ≡ a → c ≡ counted_on (one_of why told) b → c ≡ counted_on (one_of why told) a
counted_told told why a b c p q = q ∙ ap (counted_on (one_of why told)) p

-- answered calls before one that is answered
pub counted_none : (why : LookFault) (a b c : ℕ) → b ≡ a → c ≡ counted_on (one_of why None) b → c ≡ a
counted_none why a b c p q = q ∙ p

-- what is known before a call and of later ones
began_by : {P Q : Type 0} (told : Option LookFault) (later : List (Option LookFault)) → (told ≡ None → P)
    → (any_answers later ≡ true → Q) → (Q → P) → any_answers (told ∷ later) ≡ true → P
began_by None later first rest back e = first refl
began_by (Some why) later first rest back e = back (rest e)

ends_by : {P Q : Type 0} (told : Option LookFault) (later : List (Option LookFault)) → (told ≡ None → P) →
    (P → later ≡ [] → Q)
    → (last_answers later ≡ true → Q) → last_answers (told ∷ later) ≡ true → Q
ends_by None [] first none rest e = none (first refl) refl
ends_by (Some why) [] first none rest e = cc
ends_by told (next ∷ later) first none rest e = rest e

no_more : {S A : Type 0} (after : S → A → S → Type 0) (old new : S) (items : List A)
    → items ≡ [] → Passes after old items new → new ≡ old
no_more after old new items e p = subst (λ xs. Passes after old xs new) e p

pub together : {S : Type 0} (K : KeptOf S) → CallsLeave K
together K old new [] p = subst (λ s. LeaveAll K old [] s) (sym p) (record {
  since = since_refl;
  counted = λ honest why. refl;
  began = λ honest e. cc;
  vouched = λ honest e. cc;
  stays = λ honest. stays_refl K old;
})
together K old new (told ∷ later) p =
    let first = p.1 in
    let rest = together K p.0 new later p.2 in
    record {
      since = since_then first.since rest.since;
      counted = λ honest why.
          counted_join (one_of why told) (times why later) (K.failures old why) (K.failures p.0 why)
          (K.failures new why)
          (first.counted (rest.since.was_honest honest) why) (rest.counted honest why);
      began = λ honest.
          began_by told later
          (λ e. first.since.was_clean (first.vouched (rest.since.was_honest honest) e)) (rest.began honest)
          first.since.was_clean;
      vouched = λ honest.
          ends_by told later (first.vouched (rest.since.was_honest honest))
          (λ clean e. subst K.is_clean (sym (no_more (Leaves K) p.0 new later e p.2)) clean) (rest.vouched honest);
      stays = λ honest.
          stays_then (first.stays (rest.since.was_honest honest)) rest.since (rest.stays honest) first.since;
    }

tells : {P : Type 0} (told : Option LookFault) → (told ≡ None → P) → (P → ⊥) → IsSome told
tells None k n = absurd (n (k refl))
tells (Some why) k n = refl

pub shut_fail : {S : Type 0} (K : KeptOf S) → ShutCallsFail K
shut_fail K old new [] p shut = tt
shut_fail K old new (told ∷ later) p shut =
    let rest = together K p.0 new later p.2 in (
      tells told (p.1.vouched (rest.since.was_honest shut.0)) (λ clean. shut.1 (p.1.since.was_clean clean)),
      shut_fail K p.0 new later p.2 (shut.0, λ clean. shut.1 (p.1.since.was_clean clean)),
    )

-- One more came after these.
pub passes_push : {S A : Type 0} (after : S → A → S → Type 0) (old : S) {mid new : S} (items : List A) {item : A}
    → Passes after old items mid → after mid item new → Passes after old (items ++ item ∷ []) new
passes_push after old {new = new} [] {item = item} before last =
    (new, subst (λ state. after state item new) before last, refl)
passes_push after old (first ∷ items) before last = (before.0, before.1, passes_push after before.0 items before.2 last)

-- Others came after these.
pub passes_join : {S A : Type 0} (after : S → A → S → Type 0) (old mid new : S) (items more : List A)
    → Passes after old items mid → Passes after mid more new → Passes after old (items ++ more) new
passes_join after old mid new [] more before later = subst (λ state. Passes after state more new) before later
passes_join after old mid new (first ∷ items) more before later =
    (before.0, before.1, passes_join after before.0 mid new items more before.2 later)
