-- Lines of a script, answered one after the other.
use Rattle.std.proofs.Common.{◌≡◌, ℕ, zero, suc, ◌+◌, ◌≤◌, List, [], ◌∷◌, ◌++◌, length, take, drop, arith, refl, inr}
use Rattle.std.proofs.Common.{sym, ap, subst, ◌∙◌, append_assoc, append-nil, length-append, take-append-drop, add-one}
use Rattle.std.proofs.Common.{Option, Some, None, true, false, Result, Ok, Err}
use Rattle.std.proofs.Math.Seq.{take-append-add}
use Rattle.std.proofs.lemmas.List.{length-drop}
use Rattle.std.specs.List.{concat}
use Rattle.std.specs.Option.{IsSomeAnd}
use Rattle.std.specs.Result.{IfOk, IsErrAnd, OnOk}
use Rattle.std.specs.Prelude.{◌<◌, IfSome}
use Rattle.std.specs.Io.KnownBytes.{Appends}
use Rattle.std.proofs.KnownBytes.{Appends-trans, Appends-nil}
use Rattle.keycard_rules.specs.{declared.kept.Kept.Ghosts as KeptOf, Leaves.Leaves}
use Rattle.hotel_books.specs.declared.books.Books.{Ghosts as BooksOf}
use Rattle.keycard_rules.proofs.CallsTogether.{passes_join, passes_push, together}
use Rattle.rand_core.specs.Stream.{Stream}
use Rattle.keycard_rules.proofs.Drawing.{past-zero}
use Rattle.hotel_asks.specs.declared.asked.Ask.{Ask}
use Rattle.hotel_asks.specs.declared.asked.Ask.TheVariants as ask
use Rattle.hotel_model.proofs.Invariants.Assurance.{assured}
use Rattle.hotel_model.specs.declared.reply.Reply.TheVariants.{Refused}
use Rattle.hotel_model.specs.declared.reply.Refusal.TheVariants.{Memory}
use Rattle.hotel_asks.specs.Asks.{ask_copies}
use Rattle.keycard_rules.specs.Calls.{Told}
use Rattle.hotel_core.specs.Books.Happens.{HappensBy}
use Rattle.hotel_core.proofs.OfCode.StopsAfter.{no_stops, stops_then}
use Rattle.hotel_program.specs.Script.Asks.{ask_in}
use Rattle.hotel_model.specs.History.{History}
use Rattle.hotel_core.specs.Texts.{reply_text}
use Rattle.hotel_streams.specs.{Bytes.AppendsPrefix, declared.calls.WriteFailed.WriteFailed}
use Rattle.hotel_program.specs.Script.Lines.{lines, without_return, is_silent, answered_lines}
use Rattle.hotel_program.specs.Script.LineAnswers.{AskGoes, ScriptLineGoes, Sure}
use Rattle.hotel_program.specs.Script.WholeScript.{ScriptGoes, ScriptAnswered, ScriptCut, ScriptsHappen, LineEnds}
use Rattle.hotel_program.specs.Script.WholeScript.{ScriptLineHappens, LinesAnswered, LinesCut, IfCut, IfUnbegun}
use Rattle.hotel_program.specs.Script.WholeScript.{IsInput, ScriptRan, fault_of_script}
use Rattle.hotel_streams.specs.declared.bytes.WholeFault.{WholeFault}
use Rattle.hotel_streams.specs.declared.bytes.WholeFault.TheVariants as whole
use Rattle.hotel_program.specs.declared.script.TheConstants.{SCRIPT_LIMIT}
use Rattle.hotel_program.specs.declared.script.ScriptEnd.{ScriptEnd}
use Rattle.hotel_program.specs.declared.script.ScriptFault.{ScriptFault}
use Rattle.hotel_program.specs.declared.script.ScriptFault.TheVariants.{Read, TooLarge, Write}
use Rattle.hotel_program.specs.declared.script.ScriptFault.TheVariants as no

-- where there is no memory to copy a text of what is asked, nothing is moved
pub ask_without_memory : (sure : List ℕ → Type 0) (wanted : Option Ask) (h : History) (s : Stream)
    → IsSomeAnd wanted (λ asked. ask_copies asked ≡ true) → AskGoes sure wanted h s (reply_text (Refused Memory)) [] h s
ask_without_memory sure None h s p = absurd p
ask_without_memory sure (Some (ask.Command command)) h s p =
    (Refused Memory, (refl, (0, omega arith, sym (past-zero s))), refl, inr (refl, p, refl))
ask_without_memory sure (Some (ask.List its_list)) h s p = cc p

-- what is sure where more is
pub ask_weaker : (sure sure' : List ℕ → Type 0) (wanted : Option Ask) (h h' : History) (s s' : Stream)
    (text : List ℕ) (failed : Told)
    → ((t : List ℕ) → sure' t → sure t) → AskGoes sure wanted h s text failed h' s'
    → AskGoes sure' wanted h s text failed h' s'
ask_weaker sure sure' None h h' s s' text failed f g = g
ask_weaker sure sure' (Some (ask.Command command)) h h' s s' text failed f g = g
ask_weaker sure sure' (Some (ask.List its_list)) h h' s s' text failed f g =
    (g.0, g.1, (λ k. g.2 (f text k)), g.3, g.4)

pub goes_weaker : (sure sure' : List ℕ → Type 0) (ls texts : List (List ℕ)) (h h' : History)
    (s s' : Stream) (failed : Told)
    → ((t : List ℕ) → sure' t → sure t) → ScriptGoes sure h s ls texts failed h' s'
    → ScriptGoes sure' h s ls texts failed h' s'
unfolding ScriptGoes
goes_weaker sure sure' [] [] h h' s s' failed f r = r
goes_weaker sure sure' (line ∷ later) (text ∷ texts) h h' s s' failed f r = (
  r.0,
  r.1,
  r.2,
  r.3,
  ask_weaker sure sure' (ask_in line) h r.0 s r.1 text r.2 f r.4,
  goes_weaker sure sure' later texts r.0 h' r.1 s' r.3 f r.5,
  r.6,
)
goes_weaker sure sure' [] (text ∷ texts) h h' s s' failed f r = absurd r
goes_weaker sure sure' (line ∷ later) [] h h' s s' failed f r = absurd r

-- one line more at the end
script-push : (sure : List ℕ → Type 0) (h mid h' : History) (s source s' : Stream) (before texts : List (List ℕ))
    (line text : List ℕ) (failed more : Told)
    → ScriptGoes sure h s before texts failed mid source → ScriptLineGoes sure mid source line text more h' s'
    → ScriptGoes sure h s (before ++ line ∷ []) (texts ++ text ∷ []) (failed ++ more) h' s'
unfolding ScriptGoes
script-push sure h mid h' s source s' [] [] line text failed more r p =
    let p = subst (λ (x : History). ScriptLineGoes sure x source line text more h' s') r.1 p in
    let p = subst (λ (x : Stream). ScriptLineGoes sure h x line text more h' s') r.2 p in
    (h', s', more, [], p, (refl, refl, refl), rw r.0 (sym (append-nil more)))
script-push sure h mid h' s source s' (first ∷ before) (one ∷ texts) line text failed more r p = (
  r.0,
  r.1,
  r.2,
  r.3 ++ more,
  r.4,
  script-push sure r.0 mid h' r.1 source s' before texts line text r.3 more r.5 p,
  rw r.6 (append_assoc r.2 r.3 more),
)
script-push sure h mid h' s source s' [] (one ∷ texts) line text failed more r p = absurd r
script-push sure h mid h' s source s' (first ∷ before) [] line text failed more r p = absurd r

line_after : (all : List (List ℕ)) (done : ℕ) (line : List ℕ) (later : List (List ℕ)) → drop done all ≡ line ∷ later
    → (suc done ≤ length all) × (drop (suc done) all ≡ later) × (take (suc done) all ≡ take done all ++ line ∷ [])
line_after [] zero line later e = cc e
line_after [] (suc done) line later e = cc e
line_after (first ∷ all) zero line later e = (omega arith, cc e, ap (λ (x : List ℕ). x ∷ []) (cc e))
line_after (first ∷ all) (suc done) line later e =
    let k = line_after all done line later e in (omega (arith, k.0), k.1, ap (λ (ls : List (List ℕ)). first ∷ ls) k.2)

-- the line after those that are done
pub next_line : (all : List (List ℕ)) (done : ℕ) (line : List ℕ) (later : List (List ℕ)) → drop done all ≡ line ∷ later
    → (done + 1 ≤ length all) × (drop (done + 1) all ≡ later) × (take (done + 1) all ≡ take done all ++ line ∷ [])
next_line all done line later e = rw (add-one done) (line_after all done line later e)

-- no line is left
pub all_done : (all : List (List ℕ)) (done : ℕ)
    → done ≤ length all → drop done all ≡ [] → (done ≡ length all) × (take done all ≡ all)
all_done all done h e =
    let none : length (drop done all) ≡ 0 = rw e refl in (
      omega (arith, none, length-drop done all),
      sym (append-nil (take done all))
          ∙ (ap (λ (ls : List (List ℕ)). take done all ++ ls) (sym e) ∙ take-append-drop done all),
    )

module _ {S R W : Type 0} (K : KeptOf S) (own : BooksOf S) (stream : R → Stream) (contents : W → Option (List ℕ)) where
  -- lines that were answered went over the books
  abbrev Answered : S × R × W → List (List ℕ) → S × R × W → Type 0
  Answered old ls new = HappensBy K own old.0 (ScriptAnswered ls (stream old.1) (stream new.1) (contents old.2)
      (contents new.2) (K.is_clean new.0)) new.0

  none_answered : (old : S × R × W) → Answered old [] old
  unfolding ScriptGoes
  none_answered old = record {
    told = [];
    happened = λ honest h reached stands.
        (h, reached, stands, ([], (refl, refl, refl), Appends-nil (contents old.2)), assured h reached);
    calls = refl;
    stops = no_stops refl;
  }

  answered : (old new : S × R × W) (ls : List (List ℕ)) → LinesAnswered K own stream contents old ls new
      → Answered old ls new
  unfolding ScriptGoes
  answered old new [] p = subst (λ x. Answered old [] x) (sym p) (none_answered old)
  answered old new (line ∷ later) p =
      let mid = p.0 in
      let one = p.1 in
      let rest = answered mid new later p.2 in
      let first = (together K old.0 mid.0 one.told one.calls).since in
      let back = (together K mid.0 new.0 rest.told rest.calls).since in
      record {
        told = one.told ++ rest.told;
        happened = λ honest h reached stands.
            let k = one.happened (back.was_honest honest) h reached stands in
            let l = rest.happened honest k.0 k.1 k.2 in
            let a = k.3 in
            let b = l.3 in
            let goes = ask_weaker (Sure (K.is_clean old.0)) (Sure (K.is_clean new.0)) (ask_in line) h k.0
            (stream old.1) (stream mid.1) a.0 one.told
            (λ text sure tells. first.was_clean (back.was_clean (sure tells))) a.1 in (
              l.0,
              l.1,
              l.2,
              (
                a.0 ∷ b.0,
                (k.0, stream mid.1, one.told, rest.told, goes, b.1, refl),
                Appends-trans (contents old.2) (contents mid.2) (contents new.2) a.0 (concat b.0) a.2.0 b.2,
              ),
              l.4,
            );
        calls = passes_join (Leaves K) old.0 mid.0 new.0 one.told rest.told one.calls rest.calls;
        stops = stops_then one.stops rest.stops;
      }

  -- and those before one that was cut short
  abbrev Cut : S × R × W → List (List ℕ) → S × R × W → Type 0
  Cut old ls new = HappensBy K own old.0 (ScriptCut ls (stream old.1) (stream new.1) (contents old.2)
      (contents new.2) (K.is_clean new.0)) new.0

  cut_last : (old mid new : S × R × W) (before : List (List ℕ)) (line : List ℕ) (failed : WriteFailed)
      → Answered old before mid → LineEnds K own stream contents (Err failed) mid line new
      → Cut old (before ++ line ∷ []) new
  cut_last old mid new before line failed first last =
      let back = (together K mid.0 new.0 last.told last.calls).since in
      record {
        told = first.told ++ last.told;
        happened = λ honest h reached stands.
            let k = first.happened (back.was_honest honest) h reached stands in
            let l = last.happened honest k.0 k.1 k.2 in
            let a = k.3 in
            let n = l.3 in
            let went = goes_weaker (Sure (K.is_clean mid.0)) (λ text. K.is_clean new.0) before a.0 h k.0 (stream old.1)
            (stream mid.1) first.told (λ text sure tells. back.was_clean sure) a.1 in
            let goes = ask_weaker (λ text. K.is_clean mid.0) (λ text. K.is_clean new.0) (ask_in line) k.0 l.0
            (stream mid.1) (stream new.1) n.0 last.told (λ text clean. back.was_clean clean) n.1 in (
              l.0,
              l.1,
              l.2,
              (
                a.0,
                n.0,
                script-push (λ text. K.is_clean new.0) h k.0 l.0 (stream old.1) (stream mid.1) (stream new.1) before
                    a.0 line n.0 first.told last.told went goes,
                n.2.0,
                n.2.1,
                Appends-trans (contents old.2) (contents mid.2) (contents new.2) (concat a.0) (take n.2.0 n.0) a.2
                    n.2.2,
              ),
              l.4,
            );
        calls = passes_join (Leaves K) old.0 mid.0 new.0 first.told last.told first.calls last.calls;
        stops = stops_then first.stops last.stops;
      }

  pub scripts_happen : ScriptsHappen K own stream contents
  scripts_happen = record {
    answered = answered;
    cut = λ old new ls c. subst (λ (l : List (List ℕ)). Cut old l new) (sym c.2)
        (cut_last old c.3 new c.0 c.1 c.5 (answered old c.3 c.0 c.4) c.6);
  }

  -- one more line was answered, in the state that those before it left
  pub lines_next : (all : List (List ℕ)) (done : ℕ) (line : List ℕ) (later : List (List ℕ)) (old mid new : S × R × W)
      → LinesAnswered K own stream contents old (take done all) mid → drop done all ≡ line ∷ later
      → ScriptLineHappens K own stream contents mid line new
      → LinesAnswered K own stream contents old (take (done + 1) all) new
  lines_next all done line later old mid new before e next =
      subst (λ (ls : List (List ℕ)). LinesAnswered K own stream contents old ls new)
      (sym (next_line all done line later e).2)
      (passes_push (ScriptLineHappens K own stream contents) old (take done all) before next)

  -- or cut short
  pub lines_cut : (all : List (List ℕ)) (done : ℕ) (line : List ℕ) (later : List (List ℕ)) (old mid new : S × R × W)
      (failed : WriteFailed)
      → LinesAnswered K own stream contents old (take done all) mid → drop done all ≡ line ∷ later
      → LineEnds K own stream contents (Err failed) mid line new
      → LinesCut K own stream contents old (take (done + 1) all) new
  lines_cut all done line later old mid new failed before e next =
      (take done all, line, (next_line all done line later e).2, mid, before, failed, next)

-- bytes, and then a prefix of some more
pub appends_prefix : (a b c : Option (List ℕ)) (output text : List ℕ)
    → AppendsPrefix b c text → Appends a b output → AppendsPrefix a c (output ++ text)
appends_prefix a b c output text (n, within, next) first = (
  length output + n,
  simp length-append (omega arith),
  subst (Appends a c) (sym (take-append-add output text n)) (Appends-trans a b c output (take n text) first next),
)

-- a line that isn't silent is among those that are answered
pub answered_more : (text later line cut : List ℕ) → lines text ≡ line ∷ lines later → cut ≡ without_return line
    → is_silent cut ≡ false → answered_lines text ≡ cut ∷ answered_lines later
answered_more text later line cut e w h =
    let s : is_silent (without_return line) ≡ false = subst (λ (x : List ℕ). is_silent x ≡ false) w h in
    let k : answered_lines text ≡ without_return line ∷ answered_lines later = rw (e, s) refl in
    k ∙ ap (λ (x : List ℕ). x ∷ answered_lines later) (sym w)

module _ {S R W : Type 0} (K : KeptOf S) (own : BooksOf S) (stream : R → Stream) (contents : W → Option (List ℕ))
    (known : Option (List ℕ)) (old : S × R × W) where
  -- a script ran as its lines were answered
  pub script_ran : (new : S × R × W) (script : List ℕ) (end : Result ScriptEnd ScriptFault) → IsInput known script
      → IfOk end (λ e. e.lines ≡ length (answered_lines script))
      → OnOk end (LinesAnswered K own stream contents old (answered_lines script) new)
      → IfCut end (λ done. (1 ≤ done) × (done ≤ length (answered_lines script))
      × LinesCut K own stream contents old (take done (answered_lines script)) new)
      → IfUnbegun end ⊥ → ScriptRan K own stream contents known old end new
  script_ran new script (Ok end) input count ok cut begun = (script, input, count, ok)
  script_ran new script (Err (Write done)) input count ok cut begun = (script, input, cut.0, cut.1, cut.2)
  script_ran new script (Err Read) input count ok cut begun = absurd begun
  script_ran new script (Err TooLarge) input count ok cut begun = absurd begun
  script_ran new script (Err no.Memory) input count ok cut begun = absurd begun

  -- a script that wasn't read whole
  pub unread_ran : (end : Result ScriptEnd ScriptFault) (why : WholeFault) → IsErrAnd end (λ e. e ≡ fault_of_script why)
      → (why ≡ whole.TooLarge → IfSome known (λ input. SCRIPT_LIMIT < length input))
      → ScriptRan K own stream contents known old end old
  unread_ran (Ok end) why p large = absurd p
  unread_ran (Err fault) why p large =
      subst (λ (f : ScriptFault). ScriptRan K own stream contents known old (Err f) old) (sym p) (by why large)
    where
      by : (why : WholeFault) → (why ≡ whole.TooLarge → IfSome known (λ input. SCRIPT_LIMIT < length input))
          → ScriptRan K own stream contents known old (Err (fault_of_script why)) old
      by whole.Read large = refl
      by whole.TooLarge large = (refl, large refl)
      by whole.Memory large = refl
