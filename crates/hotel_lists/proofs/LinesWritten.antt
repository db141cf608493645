-- The lines that a sink wrote along a walk.
use Rattle.std.proofs.Common.{ℕ, ◌≡◌, Bool, true, false, List, [], ◌∷◌, ◌++◌, Option, Result, Ok, Err, Some, None, map}
use Rattle.std.proofs.Common.{append_assoc, append-nil, length-append, ap, refl, sym, ◌∙◌, subst, arith, inl, inr}
use Rattle.std.proofs.Common.{flat_map}
use Rattle.hotel_books.proofs.Names.{Passes, Hands}
use Rattle.hotel_books.specs.Books.Walks.{failure_of}
use Rattle.std.specs.List.{concat}
use Rattle.std.proofs.lemmas.List.{map-append, take-append-le}
use Rattle.std.proofs.lemmas.List.Concat.{flat_map-append}
use Rattle.std.specs.Io.KnownBytes.{Appends}
use Rattle.std.proofs.KnownBytes.{Appends-trans, Appends-kept}
use Rattle.hotel_books.specs.declared.books.walks.WalkFault.{WalkFault}
use Rattle.hotel_books.specs.declared.books.walks.WalkFault.TheVariants as walk
use Rattle.hotel_streams.specs.Bytes.{AppendsPrefix}
use Rattle.hotel_lists.specs.{LineSink.SameEnds, LineSink.Gathers, LineSink.StopsAtWrite}
use Rattle.hotel_lists.specs.{LineSink.Finishes, declared.line_sink.LineSink.LineSink}
use Rattle.hotel_lists.specs.RowLines.{ListTold, StopsAtLine, list_result}
use Rattle.hotel_lists.specs.declared.fault.ListFault.{ListFault}
use Rattle.hotel_lists.specs.{Listings.IsListPrefix, Listings.ListEnds, Listings.listing}
use Rattle.hotel_lists.specs.declared.fault.ListFault.TheVariants as fault
use Rattle.hotel_streams.proofs.{BytesLemmas.prefix_next, CallsLemmas.none_forgotten, CallsLemmas.then_none_forgotten}

-- a prefix of the first of two texts is a prefix of both
pub prefix_of_first : (a b : Option (List ℕ)) (bs cs : List ℕ) → AppendsPrefix a b bs → AppendsPrefix a b (bs ++ cs)
prefix_of_first a b bs cs (n, within, h) =
    (n, simp length-append (omega arith), subst (Appends a b) (sym (take-append-le n bs cs within)) h)

-- a sink that stopped, and not for lack of memory
stopped_for_write : (failed : Bool) → list_result (Err walk.Stopped) failed ≡ Err fault.Write → failed ≡ true
stopped_for_write true e = refl
stopped_for_write false e = cc

same_sink : {W : Type 0} (s : LineSink W) → SameEnds s s
same_sink s = record { writer = refl; calls = refl; none_forgotten = none_forgotten s.calls.now }

then_same : {W : Type 0} (a b c : LineSink W) → SameEnds a b → SameEnds b c → SameEnds a c
then_same a b c h k = record {
  writer = k.writer ∙ h.writer;
  calls = k.calls ∙ h.calls;
  none_forgotten = then_none_forgotten a.calls.now b.calls.now c.calls.now h.none_forgotten k.none_forgotten;
}

-- a list reported what its walk did
pub walk_told : {W : Type 0} (contents : W → Option (List ℕ)) (b c : LineSink W)
    (end result : Result (Unit {0}) WalkFault) (last : Result (Unit {0}) ListFault)
    → Finishes contents b c end result → last ≡ list_result result c.write_failed → ListTold last (failure_of end ∷ [])
walk_told contents b c end result last f same =
    subst (λ l. ListTold l (failure_of end ∷ [])) (sym same) (by end result f)
  where
    stopped : (failed : Bool) → ListTold (list_result (Err walk.Stopped) failed) (None ∷ [])
    stopped true = refl
    stopped false = inl refl

    of_err : (result : Result (Unit {0}) WalkFault) (why : WalkFault) → result ≡ Err why
        → ListTold (list_result (Err why) c.write_failed) (failure_of (Err why) ∷ [])
        → ListTold (list_result result c.write_failed) (failure_of (Err why) ∷ [])
    of_err result why e t = subst (λ r. ListTold (list_result r c.write_failed) (failure_of (Err why) ∷ [])) (sym e) t

    by : (end result : Result (Unit {0}) WalkFault) → Finishes contents b c end result
        → ListTold (list_result result c.write_failed) (failure_of end ∷ [])
    by (Err walk.Memory) result f = of_err result walk.Memory f.0 (inr ([], refl, refl))
    by (Err walk.Store) result f = of_err result walk.Store f.0 ([], refl, refl)
    by (Err walk.Stopped) result f = of_err result walk.Stopped f.0 (stopped c.write_failed)
    by (Ok done) (Ok ended) f = (omega arith, refl)
    by (Ok done) (Err walk.Stopped) f = stopped c.write_failed
    by (Ok done) (Err walk.Memory) f = absurd f
    by (Ok done) (Err walk.Store) f = absurd f

-- of rows in two parts, and of one more row
regroup : {R : Type 0} (sent held : List R) (row : R) (rest : List R)
    → (sent ++ held) ++ row ∷ rest ≡ (sent ++ (held ++ row ∷ [])) ++ rest
regroup sent held row rest =
    append_assoc sent held (row ∷ rest)
    ∙ sym (append_assoc sent (held ++ row ∷ []) rest ∙ ap (λ l. sent ++ l) (append_assoc held (row ∷ []) rest))

-- the text of a list: its header, and a line for each row
abbrev pub list_text : {R : Type 0} → List ℕ → (R → List ℕ) → List R → List ℕ
list_text header line rows = header ++ flat_map line rows

-- the lines of rows are their text
lines_text : {R : Type 0} (header : List ℕ) (line : R → List ℕ) (rows : List R)
    → list_text header line rows ≡ header ++ concat (map line rows)
lines_text {R} header line rows = ap (λ (l : List ℕ). header ++ l) (by rows)
  where
    by : (rows : List R) → flat_map line rows ≡ concat (map line rows)
    by [] = refl
    by (row ∷ rows) = ap (λ (l : List ℕ). line row ++ l) (by rows)

module _ {R : Type 0} (line : R → List ℕ) (old new : Option (List ℕ)) (header : List ℕ) (rows : List R) where
  -- a writer took of the list of these rows what its end says
  abbrev pub Ends : Result (Unit {0}) ListFault → Type 0
  Ends end = ListEnds [] (Some (listing header line rows)) old new end

  whole_ends : Appends old new (list_text header line rows) → Ends (Ok tt)
  whole_ends written = (refl, subst (Appends old new) (lines_text header line rows) written)

  pub cut_ends : AppendsPrefix old new (header ++ concat (map line rows)) → Ends (Err fault.Write)
  cut_ends prefix = ((λ none. cc none), prefix)

  -- whole lines of it
  prefix_ends : (sent rest : List R) → rows ≡ sent ++ rest → Appends old new (list_text header line sent)
      → (prefix : List ℕ) × IsListPrefix (Some (listing header line rows)) prefix × Appends old new prefix
  prefix_ends sent rest e written = (
    header ++ concat (map line sent),
    inr (map line sent, map line rest, ap (map line) e ∙ map-append line sent rest, refl),
    subst (Appends old new) (lines_text header line sent) written,
  )

module _ {W R : Type 0} (contents : W → Option (List ℕ)) (line : R → List ℕ) where
  abbrev pub Wrote : LineSink W → R → LineSink W → Type 0
  Wrote old row new = SameEnds old new × Gathers contents old new (line row)

  abbrev pub Stopped : LineSink W → R → LineSink W → Type 0
  Stopped old row new = SameEnds old new × StopsAtWrite contents old new (old.gathered.now ++ line row)

  -- of the list of these rows a prefix of whole rows is written, and the lines of the others are gathered
  abbrev pub Stands : Option (List ℕ) → List ℕ → List R → LineSink W → Type 0
  Stands w header rows s = (sent : List R) × (held : List R) × (rows ≡ sent ++ held)
      × Appends w (contents s.writer.now) (list_text header line sent) × (s.gathered.now ≡ flat_map line held)

  one_more : (held : List R) (row : R) → flat_map line held ++ line row ≡ flat_map line (held ++ row ∷ [])
  one_more held row =
      sym (flat_map-append line held (row ∷ []) ∙ ap (λ l. flat_map line held ++ l) (append-nil (line row)))

  text_of_both : (header : List ℕ) (sent held : List R)
      → list_text header line sent ++ flat_map line held ≡ list_text header line (sent ++ held)
  text_of_both header sent held = append_assoc header (flat_map line sent) (flat_map line held)
      ∙ ap (λ l. header ++ l) (sym (flat_map-append line sent held))

  step : (w : Option (List ℕ)) (header : List ℕ) (rows : List R) (row : R) (old new : LineSink W)
      → Stands w header rows old → Gathers contents old new (line row) → Stands w header (rows ++ row ∷ []) new
  step w header rows row old new (sent, held, all, written, gathered) (inl (kept, more)) = (
    sent,
    held ++ row ∷ [],
    ap (λ l. l ++ row ∷ []) all ∙ append_assoc sent held (row ∷ []),
    Appends-kept w (contents old.writer.now) (contents new.writer.now) _ written kept,
    more ∙ ap (λ l. l ++ line row) gathered ∙ one_more held row,
  )
  step w header rows row old new (sent, held, all, written, gathered) (inr (wrote, none)) =
      let text : list_text header line sent ++ (old.gathered.now ++ line row)
      ≡ list_text header line (rows ++ row ∷ []) =
      ap (λ l. list_text header line sent ++ l) (ap (λ l. l ++ line row) gathered ∙ one_more held row)
      ∙ text_of_both header sent (held ++ row ∷ [])
      ∙ ap (λ l. list_text header line l) (sym (ap (λ l. l ++ row ∷ []) all ∙ append_assoc sent held (row ∷ []))) in (
        rows ++ row ∷ [],
        [],
        sym (append-nil (rows ++ row ∷ [])),
        subst (Appends w (contents new.writer.now)) text
            (Appends-trans w (contents old.writer.now) (contents new.writer.now) _ _ written wrote),
        none,
      )

  took_same : (rows : List R) (a b : LineSink W) → Passes Wrote a rows b → SameEnds a b
  took_same [] a b t = subst (λ (s : LineSink W). SameEnds a s) (sym t) (same_sink a)
  took_same (row ∷ rows) a b t = then_same a t.0 b t.1.0 (took_same rows t.0 b t.2)

  took : (w : Option (List ℕ)) (header : List ℕ) (before rows : List R) (a b : LineSink W)
      → Stands w header before a → Passes Wrote a rows b → Stands w header (before ++ rows) b
  took w header before [] a b s t = subst (λ (c : LineSink W). Stands w header (before ++ []) c) (sym t)
      (subst (λ rs. Stands w header rs a) (sym (append-nil before)) s)
  took w header before (row ∷ rows) a b s t =
      subst (λ rs. Stands w header rs b) (append_assoc before (row ∷ []) rows)
      (took w header (before ++ row ∷ []) rows t.0 b (step w header before row a t.0 s t.1.1) t.2)

  -- after the header, and rows that the sink took
  from_header : (w : Option (List ℕ)) (header : List ℕ) (rows : List R) (a b : LineSink W)
      → Appends w (contents a.writer.now) header → a.gathered.now ≡ [] → Passes Wrote a rows b → Stands w header rows b
  from_header w header rows a b first none t = took w header [] rows a b
      ([], [], refl, subst (Appends w (contents a.writer.now)) (sym (append-nil header)) first, none) t

  -- the sink's writer and calls are the same ones at the end of the walk
  same_ends : (rows : List R) (a b : LineSink W) (end : Result (Unit {0}) WalkFault)
      → Hands Wrote Stopped rows a b end → SameEnds a b
  same_ends rows a b (Ok done) h = took_same rows a b h
  same_ends rows a b (Err walk.Stopped) h = then_same a h.4 b (took_same h.0 a h.4 h.5) h.6.0
  same_ends rows a b (Err walk.Memory) h = took_same h.0 a b h.3
  same_ends rows a b (Err walk.Store) h = took_same h.0 a b h.3

  -- a list ends with Write only after a write that failed
  write_had_failed : (rows : List R) (a b c : LineSink W) (end result : Result (Unit {0}) WalkFault)
      → Hands Wrote Stopped rows a b end → Finishes contents b c end result
      → list_result result c.write_failed ≡ Err fault.Write → c.calls.now.write_failed ≡ true
  write_had_failed rows a b c (Err walk.Stopped) result h f e =
      let here : list_result (Err walk.Stopped) b.write_failed ≡ Err fault.Write =
      subst (λ (s : LineSink W). list_result (Err walk.Stopped) s.write_failed ≡ Err fault.Write) f.1
      (subst (λ r. list_result r c.write_failed ≡ Err fault.Write) f.0 e) in
      subst (λ (s : LineSink W). s.calls.now.write_failed ≡ true) (sym f.1)
      (h.6.1.1 (stopped_for_write b.write_failed here))
  write_had_failed rows a b c (Ok done) (Err walk.Stopped) h f e = f.1 (stopped_for_write c.write_failed e)
  write_had_failed rows a b c (Ok done) (Ok ended) h f e = cc
  write_had_failed rows a b c (Ok done) (Err walk.Memory) h f e = absurd f
  write_had_failed rows a b c (Ok done) (Err walk.Store) h f e = absurd f
  write_had_failed rows a b c (Err walk.Memory) result h f e =
      let k = subst (λ r. list_result r c.write_failed ≡ Err fault.Write) f.0 e in cc
  write_had_failed rows a b c (Err walk.Store) result h f e =
      let k = subst (λ r. list_result r c.write_failed ≡ Err fault.Write) f.0 e in cc

  -- a list was written at the same writer and calls, and ends with Write only after a write that failed
  pub list_ended : (rows : List R) (a b c : LineSink W)
      (end result : Result (Unit {0}) WalkFault) (last : Result (Unit {0}) ListFault)
      → Hands Wrote Stopped rows a b end → SameEnds b c → Finishes contents b c end result
      → last ≡ list_result result c.write_failed
      → SameEnds a c × (last ≡ Err fault.Write → c.calls.now.write_failed ≡ true)
  list_ended rows a b c end result last h same f e = (
    then_same a b c (same_ends rows a b end h) same,
    λ failed. write_had_failed rows a b c end result h f (sym e ∙ failed),
  )

  -- the sink stopped as it was to write the lines of rows
  stopped : (failed : Bool) (w old new : Option (List ℕ)) (header : List ℕ) (rows sent more rest : List R)
      (bytes : List ℕ) → rows ≡ (sent ++ more) ++ rest → bytes ≡ flat_map line more
      → Appends w old (list_text header line sent) → StopsAtLine failed old new bytes
      → Ends line w new header rows (list_result (Err walk.Stopped) failed)
  stopped true w old new header rows sent more rest bytes e same first stop =
      let whole : list_text header line rows ≡ (list_text header line sent ++ bytes) ++ flat_map line rest =
      ap (λ l. list_text header line l) e ∙ sym (text_of_both header (sent ++ more) rest)
      ∙ ap (λ l. l ++ flat_map line rest) (sym (text_of_both header sent more))
      ∙ ap (λ l. (list_text header line sent ++ l) ++ flat_map line rest) (sym same) in
      cut_ends line w new header rows (subst (AppendsPrefix w new) (sym whole ∙ lines_text header line rows)
      (prefix_next w old new (list_text header line sent) bytes (flat_map line rest) first stop))
  stopped false w old new header rows sent more rest bytes e same first stop =
      prefix_ends line w new header rows sent (more ++ rest) (e ∙ append_assoc sent more rest)
      (Appends-kept w old new _ first stop)

  -- the rest of the rows wasn't written, or the rest of them was
  rest_stopped : (w : Option (List ℕ)) (header : List ℕ) (rows taken rest : List R) (b c : LineSink W)
      → rows ≡ taken ++ rest → Stands w header taken b → StopsAtWrite contents b c b.gathered.now
      → Ends line w (contents c.writer.now) header rows (list_result (Err walk.Stopped) c.write_failed)
  rest_stopped w header rows taken rest b c e (sent, held, all, written, gathered) f =
      stopped c.write_failed w (contents b.writer.now) (contents c.writer.now) header rows sent held rest b.gathered.now
      (e ∙ ap (λ l. l ++ rest) all) gathered written f.0

  -- what was gathered before the walk failed isn't written
  walk_failed : (w : Option (List ℕ)) (header : List ℕ) (rows taken rest : List R) (b c : LineSink W)
      → rows ≡ taken ++ rest → Stands w header taken b → c ≡ b
      → (prefix : List ℕ) × IsListPrefix (Some (listing header line rows)) prefix
      × Appends w (contents c.writer.now) prefix
  walk_failed w header rows taken rest b c e (sent, held, all, written, gathered) same =
      subst (λ (s : LineSink W). (prefix : List ℕ) × IsListPrefix (Some (listing header line rows)) prefix
      × Appends w (contents s.writer.now) prefix) (sym same)
      (prefix_ends line w (contents b.writer.now) header rows sent (held ++ rest)
      (e ∙ ap (λ l. l ++ rest) all ∙ append_assoc sent held rest) written)

  rest_written : (w : Option (List ℕ)) (header : List ℕ) (rows : List R) (b c : LineSink W)
      → Stands w header rows b → Appends (contents b.writer.now) (contents c.writer.now) b.gathered.now
      → Appends w (contents c.writer.now) (list_text header line rows)
  rest_written w header rows b c (sent, held, all, written, gathered) f =
      let text : list_text header line sent ++ b.gathered.now ≡ list_text header line rows =
      ap (λ l. list_text header line sent ++ l) gathered ∙ text_of_both header sent held
      ∙ ap (λ l. list_text header line l) (sym all) in
      subst (Appends w (contents c.writer.now)) text
      (Appends-trans w (contents b.writer.now) (contents c.writer.now) _ _ written f)

  -- the sink stopped at a row of the walk
  walk_stopped : (w : Option (List ℕ)) (header : List ℕ) (rows taken : List R) (row : R) (rest : List R)
      (last b : LineSink W) → rows ≡ taken ++ row ∷ rest → Stands w header taken last
      → StopsAtWrite contents last b (last.gathered.now ++ line row)
      → Ends line w (contents b.writer.now) header rows (list_result (Err walk.Stopped) b.write_failed)
  walk_stopped w header rows taken row rest last b e (sent, held, all, written, gathered) f =
      stopped b.write_failed w (contents last.writer.now) (contents b.writer.now) header rows sent
      (held ++ row ∷ []) rest (last.gathered.now ++ line row)
      (e ∙ ap (λ l. l ++ row ∷ rest) all ∙ regroup sent held row rest)
      (ap (λ l. l ++ line row) gathered ∙ one_more held row) written f.0

  -- after the header, the walk and its end, the list is written as its end says
  pub list_written : (w : Option (List ℕ)) (header : List ℕ) (rows handed : List R) (a b c : LineSink W)
      (end result : Result (Unit {0}) WalkFault) → Appends w (contents a.writer.now) header → a.gathered.now ≡ []
      → handed ≡ rows → Hands Wrote Stopped handed a b end → Finishes contents b c end result
      → Ends line w (contents c.writer.now) header rows (list_result result c.write_failed)
  list_written w header rows handed a b c (Err walk.Stopped) result first none e h f =
      let here = walk_stopped w header rows h.0 h.1 h.2 h.4 b (sym e ∙ h.3)
      (from_header w header h.0 a h.4 first none h.5) h.6.1 in
      subst (λ r. Ends line w (contents c.writer.now) header rows (list_result r c.write_failed)) (sym f.0)
      (subst (λ (s : LineSink W). Ends line w (contents s.writer.now) header rows
      (list_result (Err walk.Stopped) s.write_failed)) (sym f.1) here)
  list_written w header rows handed a b c (Ok done) (Err walk.Stopped) first none e h f = rest_stopped w header rows
      handed [] b c (sym e ∙ sym (append-nil handed)) (from_header w header handed a b first none h) f
  list_written w header rows handed a b c (Ok done) (Ok ended) first none e h f =
      whole_ends line w (contents c.writer.now) header rows
      (subst (λ rs. Appends w (contents c.writer.now) (list_text header line rs)) e
      (rest_written w header handed b c (from_header w header handed a b first none h) f))
  list_written w header rows handed a b c (Ok done) (Err walk.Memory) first none e h f = absurd f
  list_written w header rows handed a b c (Ok done) (Err walk.Store) first none e h f = absurd f
  list_written w header rows handed a b c (Err walk.Memory) result first none e h f =
      subst (λ r. Ends line w (contents c.writer.now) header rows (list_result r c.write_failed)) (sym f.0)
      (walk_failed w header rows h.0 h.1 b c (sym e ∙ h.2) (from_header w header h.0 a b first none h.3) f.1)
  list_written w header rows handed a b c (Err walk.Store) result first none e h f =
      subst (λ r. Ends line w (contents c.writer.now) header rows (list_result r c.write_failed)) (sym f.0)
      (walk_failed w header rows h.0 h.1 b c (sym e ∙ h.2) (from_header w header h.0 a b first none h.3) f.1)
