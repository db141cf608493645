-- What a call over books promises of histories.
use Rattle.std.specs.Prelude.{◌≡◌}
use Rattle.hotel_model.specs.Rows.{Rows}
use Rattle.hotel_model.specs.History.{History}
use Rattle.hotel_model.specs.Headline.{Assured}
use Rattle.hotel_model.specs.RowsOf.{rows_of}
use Rattle.hotel_model.specs.Run.{Reached, StandsFor}

-- For each history that the rows stand for there is one that the later rows stand for, to which this went, and what is
-- assured holds of it.
abbrev pub Leads : Rows → (History → History → Type 0) → Rows → Type 0
Leads rows went later = (h : History) → StandsFor h rows → (h' : History) × StandsFor h' later × went h h' × Assured h'

-- The same of books that may have failed for good: the rows stand for the history if they were kept as the call began,
-- and the later ones do if they are kept as it ends. What happened is said in any case.
abbrev pub LeadsOn : Type 0 → Rows → (History → History → Type 0) → Type 0 → Rows → Type 0
LeadsOn was rows went is later = (h : History) → Reached h → (was → rows ≡ rows_of h)
    → (h' : History) × Reached h' × (is → later ≡ rows_of h') × went h h' × Assured h'
