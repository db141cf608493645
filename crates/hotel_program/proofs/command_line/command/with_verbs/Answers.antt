-- One subcommand more.
use Rattle.std.proofs.Common.{arith, ◌≡◌, map, ℕ, ◌+◌, ◌<◌, take, ap, ap₂, ◌||◌, ◌∙◌, List, [], ◌∷◌, ◌++◌, sym, refl}
use Rattle.std.proofs.Common.{length, get_or, fold}
use Rattle.std.proofs.lemmas.List.Sums.{fold_push}
use Rattle.std.proofs.lemmas.Grind.{take_at_read}
use Rattle.std.specs.Borrow.{Bor}
use Rattle.clap.specs.Words.{App, Shape, with_subcommand}
use Rattle.hotel_asks.specs.{declared.verbs.Verb.Verb, Names.names_of}
use Rattle.hotel_asks.specs.Verbs.{texts}
use Rattle.hotel_program.specs.CommandLine.{leaf, options, verb_leaf}
use Rattle.hotel_program.proofs.command_line.command.with_verbs.Goals as goal

one_more : (prefix : List (Bor (List ℕ) × Verb)) (row : Bor (List ℕ) × Verb)
    → map verb_leaf (texts prefix) ++ leaf row.0.now (names_of row.1) ∷ [] ≡ map verb_leaf (texts (prefix ++ row ∷ []))
one_more [] row = refl
one_more (first ∷ prefix) row =
    ap (λ (leaves : List Shape). leaf first.0.now (names_of first.1) ∷ leaves) (one_more prefix row)

fold-more : (verbs : List (Bor (List ℕ) × Verb)) (i : ℕ) (d : Bor (List ℕ) × Verb) → i < length verbs
    → with_subcommand (fold with_subcommand options
    (map verb_leaf (texts (take i verbs)))) (leaf (get_or verbs i d).0.now (names_of (get_or verbs i d).1))
    ≡ fold with_subcommand options (map verb_leaf (texts (take (i + 1) verbs)))
fold-more verbs i d h =
    let row = get_or verbs i d in
    let taken = sym (take_at_read verbs i d h).1 in
    sym (fold_push with_subcommand options (map verb_leaf (texts (take i verbs))) (leaf row.0.now (names_of row.1)))
    ∙ ap (fold with_subcommand options) (one_more (take i verbs) row
    ∙ ap (λ (rows : List (Bor (List ℕ) × Verb)). map verb_leaf (texts rows)) taken)

pub loop-row-preserved : goal.loop-row-preserved
loop-row-preserved c =
    let sub = c.in_ok-subcommand.ensures in
    let added = c.in_ok-command-2.ensures in
    record {
      shape = added.shape sub.globals
          ∙ ap₂ with_subcommand c.loop-row.invariant.shape
          (ap (λ (a : App). a.top) (rw c.values.ensures.names at sub.shape))
          ∙ fold-more c.args.verbs.now c.loop-row.row-index _ (omega arith);
      globals = added.globals ∙ ap₂ ◌||◌ c.loop-row.invariant.globals sub.globals;
    }
