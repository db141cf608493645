use Rattle.std.proofs.Common.{false}
use Rattle.hotel_model.specs.Refinement.Lookups.{codes_in}
use Rattle.hotel_model.specs.Words.{is_one_of}
use Rattle.hotel_tables.specs.Causes.{of_code}
use Rattle.hotel_tables.proofs.CountedCalls.{asked_in_vain, looked_up}
use Rattle.hotel_tables.proofs.table_books.TableBooksIssued.is_issued.Goals as goal

pub returns-clause-answer : goal.returns-clause-answer
returns-clause-answer g c =
    (looked_up g.S.Store _ c.in_ok-ask.ensures {takes_memory = false} (λ rows. is_one_of c.args.code (codes_in rows))
    (λ _ _. of_code c.args.code) c.self.view_is c.counting.ensures c.is_issued-issued.ensures).answer

pub returns-clause-looks : goal.returns-clause-looks
returns-clause-looks g c =
    (looked_up g.S.Store _ c.in_ok-ask.ensures {takes_memory = false} (λ rows. is_one_of c.args.code (codes_in rows))
    (λ _ _. of_code c.args.code) c.self.view_is c.counting.ensures c.is_issued-issued.ensures).looks

pub returns-in_err-ask-clause-looks : goal.returns-in_err-ask-clause-looks
returns-in_err-ask-clause-looks g c =
    (asked_in_vain g.S.Store c.in_err-ask.ensures {takes_memory = false} {said = λ (b : _). b} {wanted = false}
    c.from_residual.result c.from_residual.ensures).looks
