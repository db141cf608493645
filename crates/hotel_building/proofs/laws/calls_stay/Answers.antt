use Rattle.hotel_building.proofs.Calls.{calls_stay, books_stay}
use Rattle.hotel_building.proofs.laws.calls_stay.Goals as goal

pub returns-clause-calls : goal.returns-clause-calls
returns-clause-calls c = calls_stay

pub returns-clause-books : goal.returns-clause-books
returns-clause-books c = books_stay
