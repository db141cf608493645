-- A script as a run of its commands.
use Rattle.std.proofs.Common.{◌≡◌, ℕ, true, List, [], ◌∷◌, ◌++◌, map, refl, sym, ap, subst, ◌∙◌, append_assoc, Option}
use Rattle.std.proofs.Common.{Some, None}
use Rattle.rand_core.specs.Stream.{Stream}
use Rattle.hotel_model.specs.declared.reply.Reply.{Reply}
use Rattle.hotel_model.specs.History.{History}
use Rattle.hotel_model.specs.Run.{Runs}
use Rattle.keycard_rules.specs.Calls.{Told}
use Rattle.hotel_program.specs.Script.Asks.{ask_in}
use Rattle.hotel_asks.specs.declared.asked.Ask.{Ask}
use Rattle.hotel_asks.specs.declared.asked.Ask.TheVariants as ask
use Rattle.hotel_program.specs.Script.LineAnswers.{AskGoes, ScriptLineGoes}
use Rattle.hotel_program.specs.Script.WholeScript.{ScriptGoes}
use Rattle.hotel_program.specs.Script.ScriptRun.{ToldIn, commands_asked, answer_texts, ScriptsRun, ListsBetween}

-- a text and then others
with_text : {a b : List ℕ} {x y : List (List ℕ)} → a ≡ b → x ≡ y → a ∷ x ≡ b ∷ y
with_text {a} {b} {x} {y} e f = ap (λ l. a ∷ l) f ∙ ap (λ t. t ∷ y) e

-- what is asked has a run, with the answers and the failures of its replies and lists
AsksRun : History → Stream → List (Option Ask) → List (List ℕ) → Told → History → Stream → Type 0
AsksRun h s asks texts failed h' s' =
    (replies : List Reply) × (lists : List (List ℕ × Told)) × Runs h s (commands_asked asks) replies h' s'
    × (texts ≡ answer_texts asks replies lists) × ToldIn asks replies lists failed

asks_more : (sure : List ℕ → Type 0) (wanted : Option Ask) (asks : List (Option Ask)) (h mid h' : History)
    (s source s' : Stream) (text : List ℕ) (texts : List (List ℕ)) (failed first more : Told)
    → AskGoes sure wanted h s text first mid source → AsksRun mid source asks texts more h' s' → failed ≡ first ++ more
    → AsksRun h s (wanted ∷ asks) (text ∷ texts) failed h' s'
unfolding AsksRun
asks_more sure None asks h mid h' s source s' text texts failed first more g ran f =
    let run = subst (λ (x : History). Runs x source (commands_asked asks) ran.0 h' s') g.2 ran.2 in
    let run = subst (λ (x : Stream). Runs h x (commands_asked asks) ran.0 h' s') g.3 run in (
      ran.0,
      ran.1,
      run,
      with_text g.0 ran.3,
      subst (ToldIn asks ran.0 ran.1) (sym (f ∙ ap (λ (t : Told). t ++ more) g.1))
          ran.4,
    )
asks_more sure (Some (ask.Command command)) asks h mid h' s source s' text texts failed first more g ran f = (
  g.0 ∷ ran.0,
  ran.1,
  (mid, source, g.1, ran.2),
  with_text g.2 ran.3,
  (first, more, g.3, ran.4, f),
)
asks_more sure (Some (ask.List its_list)) asks h mid h' s source s' text texts failed first more g ran f =
    let run = subst (λ (x : History). Runs x source (commands_asked asks) ran.0 h' s') g.3 ran.2 in
    let run = subst (λ (x : Stream). Runs h x (commands_asked asks) ran.0 h' s') g.4 run in
    (ran.0, (text, first) ∷ ran.1, run, with_text refl ran.3, (more, ran.4, f))

lines_run : (sure : List ℕ → Type 0) (lines texts : List (List ℕ))
    (h h' : History) (s s' : Stream) (failed : Told)
    → ScriptGoes sure h s lines texts failed h' s' → AsksRun h s (map ask_in lines) texts failed h' s'
unfolding ScriptGoes AsksRun
lines_run sure [] [] h h' s s' failed r = ([], [], (r.1, r.2), refl, r.0)
lines_run sure (line ∷ later) (text ∷ texts) h h' s s' failed r =
    asks_more sure (ask_in line) (map ask_in later) h r.0 h' s r.1 s' text texts failed r.2 r.3 r.4
    (lines_run sure later texts r.0 h' r.1 s' r.3 r.5) r.6
lines_run sure [] (text ∷ texts) h h' s s' failed r = absurd r
lines_run sure (line ∷ later) [] h h' s s' failed r = absurd r

pub scripts_run : ScriptsRun
unfolding AsksRun
scripts_run = λ sure h h' s s' lines texts failed r. lines_run (λ text. sure text ≡ true) lines texts h h' s s' failed r

-- the lines before a line, the line, and those after it
record Split (sure : List ℕ → Type 0) (h : History) (s : Stream) (before : List (List ℕ)) (line : List ℕ)
    (later : List (List ℕ)) (texts : List (List ℕ)) (failed : Told) (h' : History) (s' : Stream) : Type 0 where
  mid : History
  then : History
  source : Stream
  next : Stream
  first : List (List ℕ)
  text : List ℕ
  rest : List (List ℕ)
  failed_first : Told
  failed_text : Told
  failed_rest : Told
  went_first : ScriptGoes sure h s before first failed_first mid source
  went_line : ScriptLineGoes sure mid source line text failed_text then next
  went_rest : ScriptGoes sure then next later rest failed_rest h' s'
  texts_are : texts ≡ first ++ text ∷ rest
  failed_is : failed ≡ failed_first ++ failed_text ++ failed_rest

four_joined : {A : Type 0} (a b c d : List A) → a ++ (b ++ c ++ d) ≡ a ++ b ++ c ++ d
four_joined {A} a b c d = sym (append_assoc a (b ++ c) d) ∙ ap (λ (l : List A). l ++ d) (sym (append_assoc a b c))

split_at : (sure : List ℕ → Type 0) (before texts : List (List ℕ)) (h h' : History) (s s' : Stream) (line : List ℕ)
    (later : List (List ℕ)) (failed : Told)
    → ScriptGoes sure h s (before ++ line ∷ later) texts failed h' s'
    → Split sure h s before line later texts failed h' s'
unfolding ScriptGoes
split_at sure [] (text ∷ texts) h h' s s' line later failed r = record {
  mid = h;
  then = r.0;
  source = s;
  next = r.1;
  first = [];
  text = text;
  rest = texts;
  failed_first = [];
  failed_text = r.2;
  failed_rest = r.3;
  went_first = (refl, refl, refl);
  went_line = r.4;
  went_rest = r.5;
  texts_are = refl;
  failed_is = r.6;
}
split_at sure (one ∷ before) (text ∷ texts) h h' s s' line later failed r =
    let k = split_at sure before texts r.0 h' r.1 s' line later r.3 r.5 in
    record {
      mid = k.mid;
      then = k.then;
      source = k.source;
      next = k.next;
      first = text ∷ k.first;
      text = k.text;
      rest = k.rest;
      failed_first = r.2 ++ k.failed_first;
      failed_text = k.failed_text;
      failed_rest = k.failed_rest;
      went_first = (r.0, r.1, r.2, k.failed_first, r.4, k.went_first, refl);
      went_line = k.went_line;
      went_rest = k.went_rest;
      texts_are = ap (λ (l : List (List ℕ)). text ∷ l) k.texts_are;
      failed_is = r.6 ∙ ap (λ (l : Told). r.2 ++ l) k.failed_is
          ∙ four_joined r.2 k.failed_first k.failed_text k.failed_rest;
    }
split_at sure [] [] h h' s s' line later failed r = absurd r
split_at sure (one ∷ before) [] h h' s s' line later failed r = absurd r

pub lists_between : ListsBetween
lists_between = λ sure h h' s s' before later line its_list texts failed r asked.
    let P : List ℕ → Type 0 = λ text. sure text ≡ true in
    let k = split_at P before texts h h' s s' line later failed r in
    let goes =
    subst (λ (w : Option Ask). AskGoes P w k.mid k.source k.text k.failed_text k.then k.next) asked k.went_line in
    let after = subst (λ (x : History). ScriptGoes P x k.next later k.rest k.failed_rest h' s') goes.3 k.went_rest in
    let after = subst (λ (x : Stream). ScriptGoes P k.mid x later k.rest k.failed_rest h' s') goes.4 after in (
      k.mid,
      k.source,
      k.first,
      k.text,
      k.rest,
      k.failed_first,
      k.failed_text,
      k.failed_rest,
      scripts_run sure h k.mid s k.source before k.first k.failed_first k.went_first,
      goes.0,
      goes.1,
      goes.2,
      scripts_run sure k.mid h' k.source s' later k.rest k.failed_rest after,
      k.texts_are,
      k.failed_is,
    )
