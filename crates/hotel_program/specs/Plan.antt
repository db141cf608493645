-- What the program does by its words.
use Rattle.std.specs.Prelude.{◌≡◌, ◌⊎◌, ℕ, Bool, true, false, List, [], Option, Some, None, Result, Ok, Err, IfOk}
use Rattle.std.specs.Prelude.{IfErr, codes, string_bytes}
use Rattle.std.specs.Io.KnownBytes.{Appends}
use Rattle.clap.specs.Words.{Text, fault_of, first_of, matches_of, subcommand_of}
use Rattle.rand_chacha.specs.ChaCha.{ChaCha, of_seed}
use Rattle.keycard_rules.specs.declared.kept.Kept.{Ghosts as KeptOf}
use Rattle.hotel_books.specs.declared.books.Books.{Ghosts as BooksOf}
use Rattle.hotel_memory.specs.Tables.{Listed}
use Rattle.hotel_model.specs.Rows.{no_rows}
use Rattle.hotel_streams.specs.Bytes.{AppendsPrefix}
use Rattle.hotel_rows.specs.declared.open_fault.FileFault.{FileFault}
use Rattle.hotel_program.specs.Acts.{ActEnds, Outer}
use Rattle.hotel_program.specs.CommandLine.{desk}
use Rattle.hotel_program.specs.Connections.{Sockets}
use Rattle.hotel_program.specs.Faults.{fault_status, refused_text}
use Rattle.hotel_program.specs.Plans.{HasOne, IsRefusalOf, IsShown, IsToldBy, IsWrong, act_in}
use Rattle.hotel_program.specs.Program.{drawn}
use Rattle.hotel_asks.specs.declared.values.ValueFault.TheVariants as value
use Rattle.hotel_asks.specs.declared.values.ValueName.{ValueName}
use Rattle.hotel_program.specs.declared.command_line.plan.DeskAct.{DeskAct}
use Rattle.hotel_program.specs.declared.command_line.plan.DeskAct.TheVariants.{Audit}
use Rattle.hotel_program.specs.declared.command_line.plan.Plan.{Plan}
use Rattle.hotel_program.specs.declared.command_line.plan.UsageFault.{UsageFault}
use Rattle.hotel_program.specs.declared.command_line.plan.UsageFault.TheVariants.{Shown, Usage, Value, Memory}
use Rattle.hotel_program.specs.declared.faults.Fault.{Fault}
use Rattle.hotel_program.specs.declared.faults.Fault.TheVariants as fault
use Rattle.hotel_program.specs.declared.faults.FaultSink.{Ghosts as FaultSinkOf}
use Rattle.hotel_program.specs.declared.surroundings.Databases.{Ghosts as DatabasesOf}
use Rattle.hotel_program.specs.declared.surroundings.Surroundings.{Ghosts as SurroundingsOf}

-- The words give this plan, or this fault.
pub record ParseTo (words : List Text) (parsed : Result Plan UsageFault) : Type 0 where
  pub clean : IfOk parsed (λ p. fault_of desk words ≡ [])
  pub act : IfOk parsed (λ p. act_in (subcommand_of desk words) ≡ Some (Ok p.act))
  pub db : IfOk parsed (λ p. p.db ≡ first_of (codes "db") (matches_of desk words))
  pub seed : IfOk parsed (λ p. p.seed_file ≡ first_of (codes "seed-file") (matches_of desk words))
  pub value : IfErr parsed (IsRefusalOf (act_in (subcommand_of desk words)))
  pub told : IfErr parsed (IsToldBy (fault_of desk words))

-- Help was written; or a write of it failed.
abbrev pub HelpEnds : {W F : Type 0} → (W → Option (List ℕ)) → (F → Fault → F → Type 0) → List ℕ → Bool → ℕ → W → W → F
    → F → Type 0
HelpEnds contents told text false status old new f f' =
    (status ≡ 0) × Appends (contents old) (contents new) text × (f' ≡ f)
HelpEnds contents told text true status old new f f' =
    (status ≡ 5) × AppendsPrefix (contents old) (contents new) text × told f fault.Write f'

-- Words that give no plan: what was said of them.
abbrev pub UsageSaid : {W F : Type 0} → (W → Option (List ℕ)) → (F → Fault → F → Type 0) → (F → List ℕ → F → Type 0)
    → UsageFault → ℕ → W → W → F → F → Type 0
UsageSaid contents told shown (Shown text) status old new f f' =
    (write_failed : Bool) × HelpEnds contents told (string_bytes text) write_failed status old new f f'
UsageSaid contents told shown (Usage text) status old new f f' =
    (status ≡ 2) × shown f (string_bytes text) f' × (new ≡ old)
UsageSaid contents told shown (Value name) status old new f f' =
    (status ≡ 2) × shown f (refused_text name) f' × (new ≡ old)
UsageSaid contents told shown Memory status old new f f' = (status ≡ 4) × told f fault.Memory f' × (new ≡ old)

-- A value of words that have no other fault is refused.
abbrev pub RefuseValue : List Text → Type 0
RefuseValue words = (fault_of desk words ≡ [])
    × (name : ValueName) × (act_in (subcommand_of desk words) ≡ Some (Err (value.Value name)))

-- The words are faulty: by the definition of `clap` they have a fault that isn't help or the version, or a value of
-- theirs is refused.
abbrev pub AreFaulty : List Text → Type 0
AreFaulty words = HasOne IsWrong (fault_of desk words) ⊎ RefuseValue words

-- Help or the version may be what the words ask for.
abbrev pub AskForHelp : List Text → Type 0
AskForHelp words = HasOne IsShown (fault_of desk words)

-- What a status says of the words: 2 that they are faulty. Of faulty ones it is that, or 4 where memory ran out;
-- another only where help may be what they ask for.
pub record StatusSays (words : List Text) (status : ℕ) : Type 0 where
  pub faulty : status ≡ 2 → AreFaulty words
  pub told : AreFaulty words → (status ≡ 2) ⊎ (status ≡ 4) ⊎ AskForHelp words

-- The audit file was read, where one is asked for.
abbrev pub FileIsRead : {E : Type 0} → (E → List ℕ → Result (List ℕ) Fault → E → Type 0) → DeskAct → E
    → Result (List ℕ) Fault → E → Type 0
FileIsRead file_read (Audit name) old file new = file_read old name file new
FileIsRead file_read _ old file new = (file ≡ Ok []) × (new ≡ old)

-- The same outside, in these surroundings.
abbrev pub amid : {I W F E : Type 0} → E → Outer I W F E → Outer I W F E
amid around out = record { reader = out.reader; writer = out.writer; faults = out.faults; around = around }

-- what contracts see of books in memory: no stop leaves anything of them, and no change fails but for lack of memory
abbrev pub of_memory : BooksOf Listed
of_memory = record {
  rows = λ books. books.rows;
  leaves_change = λ change old new. Unit {0};
  change_fails = λ change old new. ⊥;
}

-- What plans come to, by what contracts see of what is outside, and of books in memory and over a database.
module _ {D I W F E : Type 0} (remaining : I → Option (List ℕ)) (contents : W → Option (List ℕ)) (sink : FaultSinkOf F)
    (port : Sockets) (surroundings : SurroundingsOf E port.Listener port.Stream port.Caller)
    (databases : DatabasesOf E D port.Listener port.Stream port.Caller) (in_memory : KeptOf Listed)
    (of_database : KeptOf D) (own : BooksOf D) where
  -- It stopped by a fault, which was reported; nothing was read or written, and nothing more was asked of the
  -- surroundings.
  abbrev pub EndsEarly : Fault → ℕ → Outer I W F E → Outer I W F E → Type 0
  EndsEarly why status old new = (status ≡ fault_status why) × sink.told old.faults why new.faults
      × (new.reader ≡ old.reader) × (new.writer ≡ old.writer) × (new.around ≡ old.around)

  -- What comes of a database that was asked for: after the act its books were given back.
  abbrev pub AfterOpen : DeskAct → List ℕ → ChaCha → Result D FileFault → ℕ → Outer I W F E → Outer I W F E → Type 0
  AfterOpen act bytes source (Ok books) status old new = (books' : D) × (later : ChaCha) × (done : E)
      × ActEnds of_database own drawn contents sink.told port surroundings.port_bound remaining
      bytes act status (books, source) old (books', later) (amid done new)
      × databases.books_closed done books' new.around
  AfterOpen act bytes source (Err why) status old new = EndsEarly (fault.Books why) status old new

  -- An act over new books in memory, or over those of the database that is named.
  abbrev pub OverBooks : DeskAct → List ℕ → ChaCha → Option (List ℕ) → ℕ → Outer I W F E → Outer I W F E → Type 0
  OverBooks act bytes source None status old new = (books : Listed) × (later : ChaCha)
      × ActEnds in_memory of_memory drawn contents sink.told port surroundings.port_bound remaining
      bytes act status (record { rows = no_rows; failures = 0 }, source) old (books, later) new
  OverBooks act bytes source (Some name) status old new = (opened : Result D FileFault) × (then : E)
      × databases.books_opened old.around name opened then
      × AfterOpen act bytes source opened status (amid then old) new

  -- What comes of an audit file that was asked for.
  abbrev pub AfterFile : Plan → ChaCha → Result (List ℕ) Fault → ℕ → Outer I W F E → Outer I W F E → Type 0
  AfterFile plan source (Ok bytes) status old new = OverBooks plan.act bytes source plan.db status old new
  AfterFile plan source (Err why) status old new = EndsEarly why status old new

  -- What comes of a seed that was asked for.
  abbrev pub AfterSeed : Plan → Result (List ℕ) Fault → ℕ → Outer I W F E → Outer I W F E → Type 0
  AfterSeed plan (Ok seed) status old new = (file : Result (List ℕ) Fault) × (then : E)
      × FileIsRead surroundings.file_read plan.act old.around file then
      × AfterFile plan (of_seed seed) file status (amid then old) new
  AfterSeed plan (Err why) status old new = EndsEarly why status old new

  -- A plan was carried out: the seed was asked for, then the audit file, then the database, then the port; the first
  -- fault ended it.
  abbrev pub PlanEnds : Plan → ℕ → Outer I W F E → Outer I W F E → Type 0
  PlanEnds plan status old new = (seed : Result (List ℕ) Fault) × (then : E)
      × surroundings.seed_read old.around plan.seed_file seed then
      × AfterSeed plan seed status (amid then old) new

  -- What comes of words: where they give no plan, nothing is read or asked of the surroundings.
  abbrev pub ParsedEnds : Result Plan UsageFault → ℕ → Outer I W F E → Outer I W F E → Type 0
  ParsedEnds (Ok plan) status old new = PlanEnds plan status old new
  ParsedEnds (Err why) status old new =
      UsageSaid contents sink.told sink.shown why status old.writer new.writer old.faults new.faults
      × (new.reader ≡ old.reader) × (new.around ≡ old.around)

  -- The words were read, and what they ask for was carried out; status 2 says that they are faulty.
  abbrev pub WordsEnd : List Text → ℕ → Outer I W F E → Outer I W F E → Type 0
  WordsEnd words status old new = (parsed : Result Plan UsageFault) × ParseTo words parsed
      × ParsedEnds parsed status old new × StatusSays words status
