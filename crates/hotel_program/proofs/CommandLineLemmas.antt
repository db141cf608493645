-- The command line is a simple one, its subcommands are those of the table, and no argument has a rule on another.
use Rattle.std.proofs.Common.{◌≡◌, ◌⊎◌, inl, inr, true, refl, [], Option, Result}
use Rattle.clap.specs.Words.{is_simple, is_simple_and_free}
use Rattle.clap.specs.Kinds.{IsAmong, Kinds}
use Rattle.clap.specs.declared.error.kind.ErrorKind.{ErrorKind}
use Rattle.clap.specs.declared.error.kind.ErrorKind.TheVariants as kind
use Rattle.hotel_asks.specs.declared.values.ValueFault.{ValueFault}
use Rattle.hotel_program.specs.CommandLine.{desk}
use Rattle.hotel_program.specs.Plans.{IsOf, IsRefusalOf, IsToldBy, IsValueOrMemory}
use Rattle.hotel_program.specs.declared.command_line.plan.DeskAct.{DeskAct}
use Rattle.hotel_program.specs.declared.command_line.plan.UsageFault.{UsageFault}
use Rattle.hotel_program.specs.declared.command_line.plan.UsageFault.TheVariants.{Shown, Usage, Value, Memory}

pub desk_is_simple : is_simple desk ≡ true
unfolding desk
desk_is_simple = refl

pub desk_is_free : is_simple_and_free desk ≡ true
unfolding desk
desk_is_free = refl

pub desk_wants_subcommand : desk.top.subcommand_required ≡ true
unfolding desk
desk_wants_subcommand = refl

-- an error of one of the kinds, and the fault that it is
pub told_by : (kinds : Kinds) (why : ErrorKind) (told : UsageFault) → (why ≡ kind.OutOfMemory) ⊎ IsAmong why kinds
    → IsOf why told → IsToldBy kinds told
told_by kinds why Memory has is = tt
told_by kinds why (Value name) has is = absurd is
told_by kinds why (Shown text) (inr m) is = (why, m, is)
told_by kinds why (Shown text) (inl m) (inl is) = absurd (cc)
told_by kinds why (Shown text) (inl m) (inr is) = absurd (cc)
told_by kinds why (Usage text) (inl m) is = absurd (is.1 m)
told_by kinds why (Usage text) (inr m) is = (why, m, is)

-- an error of the words names no value
pub refuses_none : (wanted : Option (Result DeskAct ValueFault)) (why : ErrorKind) (told : UsageFault) → IsOf why told
    → IsRefusalOf wanted told
refuses_none wanted why (Value name) is = absurd is
refuses_none wanted why (Shown text) is = λ name e. absurd (cc)
refuses_none wanted why (Usage text) is = λ name e. absurd (cc)
refuses_none wanted why Memory is = λ name e. absurd (cc)

-- a plan's fault comes of words that have none
pub told_of_plan : (kinds : Kinds) (told : UsageFault) → IsValueOrMemory told → kinds ≡ [] → IsToldBy kinds told
told_of_plan kinds (Value name) is none = none
told_of_plan kinds Memory is none = tt
told_of_plan kinds (Shown text) is none = absurd is
told_of_plan kinds (Usage text) is none = absurd is
