-- A run as it is computed from a source's words is a run.
use Rattle.std.proofs.Common.{ℕ, zero, suc, ◌≡◌, ◌-◌, ◌≤◌, false, List, [], ◌∷◌, take, drop, length, refl, ap, sym, ◌∙◌}
use Rattle.std.proofs.Common.{subst, arith}
use Rattle.hotel_model.proofs.Names.{Stream, next_u64, words, past, Command, Event, History, Outcome, grown, answer_to}
use Rattle.hotel_model.proofs.Names.{Ran, run_on, answered, is_failed, Steps, StepsIf, IsRun}
use Rattle.std.proofs.lemmas.List.{length-drop}
use Rattle.hotel_model.proofs.Lifted.AnswersTell.{answers_tell}

-- ---- a source's next words

words_taken : (k n : ℕ) (s : Stream) → k ≤ n → take k (words n s) ≡ words k s
unfolding words
words_taken zero n s l = refl
words_taken (suc k) zero s l = absurd (omega arith)
words_taken (suc k) (suc n) s l = ap (λ ws. (next_u64 s).0 ∷ ws) (words_taken k n (next_u64 s).1 (omega arith))

words_dropped : (k n : ℕ) (s : Stream) → drop k (words n s) ≡ words (n - k) (past k s)
unfolding words past
words_dropped zero n s = let e : n ≡ n - 0 = omega arith in ap (λ m. words m s) e
words_dropped (suc k) zero s = let e : 0 ≡ 0 - suc k = omega arith in ap (λ m. words m (past (suc k) s)) e
words_dropped (suc k) (suc n) s =
    let e : n - k ≡ suc n - suc k = omega arith in
    words_dropped k n (next_u64 s).1 ∙ ap (λ m. words m (past k (next_u64 s).1)) e

words_many : (n : ℕ) (s : Stream) → length (words n s) ≡ n
unfolding words
words_many zero s = refl
words_many (suc n) s = let e = words_many n (next_u64 s).1 in omega arith

-- ---- runs

fewer : (h : History) (ahead : List ℕ) (commands : List Command) → length (run_on h ahead commands).ahead ≤ length ahead
fewer h ahead [] = omega arith
fewer h ahead (c ∷ commands) =
    let o = answer_to h (take 64 ahead) c in
    omega (arith, fewer (grown h o.happens) (drop o.examined ahead) commands, length-drop o.examined ahead)

pub runs_compute : (h : History) (s : Stream) (n : ℕ) (commands : List Command)
    → 64 ≤ length (run_on h (words n s) commands).ahead → IsRun h s commands (run_on h (words n s) commands)
runs_compute h s n [] e = (s, n, (refl, refl), refl, tt)
runs_compute h s n (c ∷ commands) e =
    let o : Outcome Event = answer_to h (take 64 (words n s)) c in
    let k = o.examined in
    let later = grown h o.happens in
    let ran : Ran = run_on later (drop k (words n s)) commands in
    let left : drop k (words n s) ≡ words (n - k) (past k s) = words_dropped k n s in
    let many : 64 ≤ n =
    omega (arith, e, fewer later (drop k (words n s)) commands, length-drop k (words n s), words_many n s) in
    let same : o ≡ answered h s c = ap (λ ws. answer_to h ws c) (words_taken 64 n s many) in
    let rest = runs_compute later (past k s) (n - k) commands
    (subst (λ ws. 64 ≤ length (run_on later ws commands).ahead) left e) in
    let r : IsRun later (past k s) commands ran =
    subst (λ ws. IsRun later (past k s) commands (run_on later ws commands)) (sym left) rest in
    let tells : is_failed o.reply ≡ false = answers_tell h (take 64 (words n s)) c in
    let step : Steps h s c o.reply later (past k s) =
    subst (λ b. StepsIf b h s c o.reply later (past k s)) (sym tells) (
      ap (λ (x : Outcome Event). x.reply) same,
      ap (λ (x : Outcome Event). grown h x.happens) same,
      ap (λ (x : Outcome Event). past x.examined s) same,
    ) in
    (r.0, r.1, (later, past k s, step, r.2), r.3, (tells, r.4))
