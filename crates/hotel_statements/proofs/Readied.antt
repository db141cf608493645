-- A connection that was asked whether it answers.
use Rattle.std.proofs.Common.{◌≡◌, ◌∙◌, inl, false, [], ◌∷◌, Err}
use Rattle.sqlite.specs.State.{State, HasCleanDisk, Survives, IsNotRun, FailsToQuery, CommitsShowing}
use Rattle.sqlite.specs.Query.{Query}
use Rattle.sqlite.specs.declared.error.Error.{Error}
use Rattle.sqlite.proofs.StateLemmas.{survives_weaker}
use Rattle.keycard_rules.specs.declared.issued.LookFault.{LookFault}
use Rattle.hotel_statements.specs.Values.{int}
use Rattle.hotel_statements.specs.Texts as text
use Rattle.hotel_statements.specs.Books.{IsBooks}
use Rattle.hotel_statements.specs.Readable.{IsDay, OrNull, FirstColumnIs}
use Rattle.hotel_statements.specs.LookUps.{Asks, fault_of}
use Rattle.hotel_statements.specs.Ready.{IsReady}
use Rattle.hotel_statements.proofs.Looked.{fault_books, fault_keeps, fault_cause}
use Rattle.hotel_statements.proofs.Statements.Selects as selects

module _ (old new : State) (books : IsBooks old) (mode : old.in_transaction ≡ false → new.in_transaction ≡ false)
    (survives : Survives old new (λ _. ⊥)) where
  pub is_not_ready : (e : Error) → (HasCleanDisk new → IsNotRun old new text.select_day (int 1 ∷ []) e)
      → (cause : LookFault) → cause ≡ fault_of e → IsReady old new (Err cause)
  unfolding FailsToQuery
  is_not_ready e not_run cause is =
      let fails : HasCleanDisk new → FailsToQuery text.select_day (int 1 ∷ []) old new e = λ clean. inl (not_run clean)
      in
      let asked : (q : Query) × Asks text.select_day q = (_, selects.select_day) in
      let weaker : Survives old new (CommitsShowing text.select_day (int 1 ∷ []) old) = survives_weaker old new _ _
      (λ _ db none. absurd none) survives in
      record {
        books = fault_books text.select_day (int 1 ∷ []) old new books asked mode weaker e fails;
        keeps = fault_keeps text.select_day (int 1 ∷ []) old new books asked mode weaker e fails;
        unchanged = λ _. tt;
        cause = λ clean other. fault_cause text.select_day (int 1 ∷ []) old new books asked mode weaker e fails
            (FirstColumnIs (OrNull IsDay)) (λ memory. other (is ∙ memory)) clean;
        crash = survives;
      }
