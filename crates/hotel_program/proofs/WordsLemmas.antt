-- What a status says of words.
use Rattle.std.proofs.Common.{◌≡◌, inl, inr, ◌∙◌, ℕ, Bool, true, false, List, Option, Result, Ok, Err, refl, sym, subst}
use Rattle.std.proofs.Common.{arith, map, string_bytes, Vec, Global, String}
use Rattle.std.specs.declared.io.Error.{Error}
use Rattle.clap.specs.Words.{Text}
use Rattle.clap.specs.Kinds.{IsAmong, Kinds}
use Rattle.hotel_program.specs.Plan.{AreFaulty, HelpEnds, ParseTo, StatusSays, UsageSaid}
use Rattle.hotel_program.specs.Program.{IfWords}
use Rattle.hotel_program.specs.declared.command_line.plan.Plan.{Plan}
use Rattle.hotel_program.specs.declared.command_line.plan.UsageFault.{UsageFault}
use Rattle.hotel_program.specs.declared.command_line.plan.UsageFault.TheVariants.{Shown, Usage, Value, Memory}
use Rattle.hotel_program.specs.declared.faults.Fault.{Fault}

-- words that give a plan aren't faulty
not_faulty : (words : List Text) (plan : Plan) → ParseTo words (Ok plan) → AreFaulty words → ⊥
not_faulty words plan p (inl has) = subst (λ (kinds : Kinds). IsAmong has.0 kinds) p.clean has.1
not_faulty words plan p (inr refused) =
    let e = sym p.act ∙ refused.2 in absurd (cc)

pub says_of_plan : (words : List Text) (plan : Plan) (status : ℕ) → ParseTo words (Ok plan) → (status ≡ 2 → ⊥)
    → StatusSays words status
says_of_plan words plan status p other = record {
  faulty = λ e. absurd (other e);
  told = λ faulty. absurd (not_faulty words plan p faulty);
}

help_status : {W F : Type 0} (contents : W → Option (List ℕ)) (told : F → Fault → F → Type 0) (text : List ℕ)
    (failed : Bool) (status : ℕ) (old new : W) (f f' : F) → HelpEnds contents told text failed status old new f f'
    → status ≡ 2 → ⊥
help_status contents told text false status old new f f' ends e =
    let zero_now = ends.0 in absurd (omega (arith, zero_now, e))
help_status contents told text true status old new f f' ends e =
    let five = ends.0 in absurd (omega (arith, five, e))

pub says_of_usage : {W F : Type 0} (contents : W → Option (List ℕ)) (told : F → Fault → F → Type 0)
    (shown : F → List ℕ → F → Type 0) (words : List Text) (why : UsageFault) (status : ℕ) (old new : W) (f f' : F)
    → ParseTo words (Err why) → UsageSaid contents told shown why status old new f f' → StatusSays words status
says_of_usage contents told shown words (Shown text) status old new f f' p said = record {
  faulty = λ e. absurd (help_status contents told _ said.0 status old new f f' said.1 e);
  told = λ faulty. inr (inr p.told);
}
says_of_usage contents told shown words (Usage text) status old new f f' p said = record {
  faulty = λ e. inl p.told;
  told = λ faulty. inl said.0;
}
says_of_usage contents told shown words (Value name) status old new f f' p said = record {
  faulty = λ e. inr (p.told, name, p.value name refl);
  told = λ faulty. inl said.0;
}
says_of_usage contents told shown words Memory status old new f f' p said = record {
  faulty = λ e. let four = said.0 in absurd (omega (arith, four, e));
  told = λ faulty. inr (inl said.0);
}

-- what holds of the texts of words that were given
pub of_words : (words : Result (Vec (String Global) Global) Error) (given : Vec (String Global) Global)
    (slice : List (String Global)) (P : List (List ℕ) → Type 0) → words ≡ Ok given → slice ≡ given.items
    → P (map string_bytes slice) → IfWords words P
of_words words given slice P is same holds =
    subst (λ (w : Result (Vec (String Global) Global) Error). IfWords w P) (sym is)
    (λ some. subst (λ (l : List (String Global)). P (map string_bytes l)) same holds)
