-- What a list that is asked for alone comes to.
use Rattle.std.specs.Prelude.{ℕ, List, Option, Result, Ok, Err}
use Rattle.hotel_model.specs.declared.reply.Refusal.TheVariants as refusal
use Rattle.hotel_model.specs.Rows.{Rows}
use Rattle.hotel_model.specs.History.{History}
use Rattle.hotel_model.specs.Run.{StandsFor}
use Rattle.hotel_lists.specs.declared.fault.ListFault.{ListFault}
use Rattle.hotel_lists.specs.declared.fault.ListFault.TheVariants as fault
use Rattle.hotel_asks.specs.declared.asked.ListAsk.{ListAsk}
use Rattle.hotel_program.specs.declared.faults.Fault.{Fault}
use Rattle.hotel_program.specs.declared.faults.Fault.TheVariants.{Memory, Store, Write}
use Rattle.hotel_program.specs.Script.ListAnswers.{refusal_text}
use Rattle.hotel_lists.specs.Listings.{ListEnds, Listing}
use Rattle.hotel_asks.specs.Listings.{listing_over}

-- What a writer took of a list that ended so; where its room isn't there, of the line that says so.
abbrev pub AnswerEnds : Option Listing → Option (List ℕ) → Option (List ℕ) → Result (Unit {0}) ListFault → Type 0
AnswerEnds listing old new end = ListEnds (refusal_text refusal.NoRoom) listing old new end

-- The same over each history that the rows stand for.
abbrev pub AnswerEndsFor : Rows → ListAsk → Option (List ℕ) → Option (List ℕ) → Result (Unit {0}) ListFault → Type 0
AnswerEndsFor rows its_list old new end =
    (h : History) → StandsFor h rows → AnswerEnds (listing_over h its_list) old new end

-- The exit status of a list that ended so, or the fault that is reported.
abbrev pub list_end : Result (Unit {0}) ListFault → Result ℕ Fault
list_end (Ok done) = Ok 0
list_end (Err fault.NoRoom) = Ok 3
list_end (Err fault.Memory) = Err Memory
list_end (Err fault.Store) = Err Store
list_end (Err fault.Write) = Err Write
