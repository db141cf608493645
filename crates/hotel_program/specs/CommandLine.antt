-- The command line: its subcommands, each with the values that it takes.
use Rattle.std.specs.Prelude.{ℕ, List, [], ◌∷◌, ◌++◌, map, codes, true, false, Some}
use Rattle.clap.specs.Words.{App, Rule, Shape, Text, new_rule}
use Rattle.clap.specs.Simple.{new_shape}
use Rattle.hotel_asks.specs.{Names.name_text, Names.names_of, Verbs.verbs}
use Rattle.hotel_asks.specs.declared.values.ValueName.{ValueName}
use Rattle.hotel_asks.specs.declared.values.ValueName.TheVariants.{File, Port, Count}
use Rattle.hotel_asks.specs.declared.verbs.Verb.{Verb}

-- A value that is always given.
abbrev pub value_rule : ValueName → Rule
value_rule name = record (new_rule (name_text name)) { required = true }

-- A subcommand with its values.
abbrev pub leaf : Text → List ValueName → Shape
leaf name values = record (new_shape name) { rules = map value_rule values }

-- The subcommand of a verb of this word.
abbrev pub verb_leaf : List ℕ × Verb → Shape
verb_leaf row = leaf row.0 (names_of row.1)

-- An option that names a file, before the subcommand.
abbrev pub option_rule : Text → Rule
option_rule name = record (new_rule name) { long = Some name; value_names = 1 }

-- The words before the subcommand, the version among them, and that there must be a subcommand.
abbrev pub options : App
options = record {
  top = record (new_shape (codes "hotel_desk")) {
    rules = option_rule (codes "db") ∷ option_rule (codes "seed-file") ∷ [];
    no_binary_name = true;
    has_version = true;
    subcommand_required = true;
  };
  subs = [];
}

-- What the program does beside verbs: an audit file, a script, and serving.
abbrev pub own_leaves : List Shape
own_leaves = leaf (codes "audit") (File ∷ []) ∷ leaf (codes "script") [] ∷ leaf (codes "serve") (Port ∷ Count ∷ []) ∷ []

-- The whole command line.
unfoldable pub desk : App
desk = record { top = record options.top { is_leaf = false }; subs = map verb_leaf verbs ++ own_leaves }
