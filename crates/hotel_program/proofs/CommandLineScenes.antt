-- What the definition of `clap` finds in words, computed.
use Rattle.std.proofs.Common.{◌≡◌, refl, [], ◌∷◌, codes}
use Rattle.clap.specs.Words.{fault_of}
use Rattle.clap.specs.Faults.{walk_fault, defaults_fault}
use Rattle.clap.specs.Walk.{walked}
use Rattle.clap.specs.declared.error.kind.ErrorKind.TheVariants as kind
use Rattle.hotel_program.specs.CommandLine.{desk}

taken : fault_of desk (codes "check-out" ∷ codes "1" ∷ []) ≡ []
unfolding desk walk_fault defaults_fault walked
taken = refl

surplus : fault_of desk (codes "check-out" ∷ codes "1" ∷ codes "junk" ∷ []) ≡ kind.UnknownArgument ∷ []
unfolding desk walk_fault defaults_fault walked
surplus = refl

short : fault_of desk (codes "check-out" ∷ []) ≡ kind.MissingRequiredArgument ∷ []
unfolding desk walk_fault defaults_fault walked
short = refl

help : fault_of desk (codes "check-out" ∷ codes "--help" ∷ []) ≡ kind.DisplayHelp ∷ []
unfolding desk walk_fault defaults_fault walked
help = refl

version : fault_of desk (codes "--version" ∷ []) ≡ kind.DisplayVersion ∷ []
unfolding desk walk_fault defaults_fault walked
version = refl

no_version_below : fault_of desk (codes "check-out" ∷ codes "--version" ∷ []) ≡ kind.UnknownArgument ∷ []
unfolding desk walk_fault defaults_fault walked
no_version_below = refl

twice : fault_of desk (codes "--db" ∷ codes "a" ∷ codes "--db" ∷ codes "b" ∷ codes "in-house" ∷ [])
    ≡ kind.ArgumentConflict ∷ []
unfolding desk walk_fault defaults_fault walked
twice = refl

no_subcommand : fault_of desk (codes "--db" ∷ codes "a" ∷ []) ≡ kind.MissingSubcommand ∷ []
unfolding desk walk_fault defaults_fault walked
no_subcommand = refl
