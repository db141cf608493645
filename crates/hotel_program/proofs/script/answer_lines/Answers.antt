use Rattle.std.proofs.Common.{◌≡◌, ◌∙◌, [], arith, false, refl, subst, sym, List, ℕ, Result}
use Rattle.hotel_core.specs.Books.Happens.{HappensBy}
use Rattle.hotel_streams.specs.declared.calls.WriteFailed.{WriteFailed}
use Rattle.hotel_streams.proofs.CallsLemmas.{none_forgotten, then_none_forgotten}
use Rattle.hotel_program.specs.Script.Asks.{ask_in}
use Rattle.hotel_program.specs.Script.LineAnswers.{AskEnds}
use Rattle.hotel_program.specs.Script.Lines.{answered_lines, is_silent}
use Rattle.hotel_program.specs.Script.WholeScript.{LinesAnswered}
use Rattle.hotel_program.proofs.OfScript.ScriptLemmas.{lines_next, lines_cut, next_line, all_done}
use Rattle.hotel_program.proofs.OfScript.ScriptLemmas.{answered_more}
use Rattle.hotel_program.proofs.script.answer_lines.Goals as goal

pub loop-line-init : goal.loop-line-init
loop-line-init g c = record {
  fits = omega arith;
  within = omega arith;
  left = refl;
  went = refl;
  calls = none_forgotten _;
}

pub loop-line-preserved-in-Ok-1 : goal.loop-line-preserved-in-Ok-1
loop-line-preserved-in-Ok-1 g c =
    let all = answered_lines c.args.script.now in
    let line = c.without_return-line.result.now in
    let silent : is_silent line ≡ false = sym c.is_silent.ensures ∙ c.if-not-is_silent.true in
    let left = c.loop-line.invariant.left ∙ answered_more c.loop-line.rest.now c.in-Some.later.now c.in-Some.line.now
    line c.in-Some.ensures.some c.without_return-line.ensures silent in
    let next = next_line all c.loop-line.done line _ left in
    let answered = c.answer_line-answered.ensures in
    let ended = subst (λ (r : Result (Unit {0}) WriteFailed). HappensBy g.B.Kept g.B.Books c.loop-line.books
    (AskEnds (ask_in line) (g.R.Rng.stream c.loop-line.source) (g.R.Rng.stream c.answer_line-answered.new.source)
    (g.W.Write.contents c.loop-line.writer) (g.W.Write.contents c.answer_line-answered.new.writer) r
    (g.B.Kept.is_clean c.loop-line.books)) c.answer_line-answered.new.books) c.in-Ok.is answered.went in
    record {
      fits = omega (arith, c.loop-line.invariant.fits, c.in-Some.ensures.shorter);
      within = next.0;
      left = next.1;
      went = lines_next g.B.Kept g.B.Books g.R.Rng.stream g.W.Write.contents all c.loop-line.done line _ _ _ _
          c.loop-line.invariant.went left ended;
      calls = then_none_forgotten _ _ _ c.loop-line.invariant.calls answered.calls.none_forgotten;
    }

pub returns-in_default-answered-clause-cut : goal.returns-in_default-answered-clause-cut
returns-in_default-answered-clause-cut g c =
    let all = answered_lines c.args.script.now in
    let line = c.without_return-line.result.now in
    let silent : is_silent line ≡ false = sym c.is_silent.ensures ∙ c.if-not-is_silent.true in
    let left = c.loop-line.invariant.left ∙ answered_more c.loop-line.rest.now c.in-Some.later.now c.in-Some.line.now
    line c.in-Some.ensures.some c.without_return-line.ensures silent in
    let ended = subst (λ (r : Result (Unit {0}) WriteFailed). HappensBy g.B.Kept g.B.Books c.loop-line.books
    (AskEnds (ask_in line) (g.R.Rng.stream c.loop-line.source) (g.R.Rng.stream c.answer_line-answered.new.source)
    (g.W.Write.contents c.loop-line.writer) (g.W.Write.contents c.answer_line-answered.new.writer) r
    (g.B.Kept.is_clean c.loop-line.books)) c.answer_line-answered.new.books) c.in_default-answered.is
    c.answer_line-answered.ensures.went in (
      omega arith,
      (next_line all c.loop-line.done line _ left).0,
      lines_cut g.B.Kept g.B.Books g.R.Rng.stream g.W.Write.contents all c.loop-line.done line _ _ _ _ _
          c.loop-line.invariant.went left ended,
    )

pub returns-clause-count : goal.returns-clause-count
returns-clause-count g c =
    let none : answered_lines c.loop-line.rest.now ≡ [] = rw (c.first_line.ensures.none c.in_default.is) refl in
    (all_done (answered_lines c.args.script.now) c.loop-line.done c.loop-line.invariant.within
    (c.loop-line.invariant.left ∙ none)).0

pub returns-clause-ok : goal.returns-clause-ok
returns-clause-ok g c =
    let none : answered_lines c.loop-line.rest.now ≡ [] = rw (c.first_line.ensures.none c.in_default.is) refl in
    let whole = (all_done (answered_lines c.args.script.now) c.loop-line.done c.loop-line.invariant.within
    (c.loop-line.invariant.left ∙ none)).1 in
    subst (λ (ls : List (List ℕ)). LinesAnswered g.B.Kept g.B.Books g.R.Rng.stream g.W.Write.contents
    (c.args.books.now, c.args.source.now, c.args.writer.now) ls
    (c.loop-line.books, c.loop-line.source, c.loop-line.writer)) whole c.loop-line.invariant.went
