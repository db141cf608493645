-- The text of a log, written line by line.
use Rattle.std.proofs.Common.{◌≡◌, ◌∙◌, ℕ, List, [], ◌∷◌, ◌++◌, Option, Result, Ok, Err, map, refl, sym, ap, subst}
use Rattle.std.proofs.Common.{append_assoc, append-nil, inl, inr}
use Rattle.std.proofs.KnownBytes.{Appends-kept, Appends-nil, Appends-trans}
use Rattle.std.proofs.lemmas.List.{map-append}
use Rattle.std.proofs.lemmas.List.Folds.{concat-append}
use Rattle.std.specs.Io.KnownBytes.{Appends}
use Rattle.std.specs.List.{concat}
use Rattle.keycard_rules.specs.Note.{Note}
use Rattle.hotel_streams.specs.Bytes.{AppendsPrefix}
use Rattle.hotel_streams.proofs.BytesLemmas.{prefix_next}
use Rattle.hotel_lock.specs.LogWriter.{GathersOrEnds, LinesEnd, LogEnds}
use Rattle.hotel_lock.specs.NoteLine.{audit_header, note_line, notes_text}
use Rattle.hotel_lock.specs.declared.log_writer.LogFault.{LogFault}
use Rattle.hotel_lock.specs.declared.log_writer.LogFault.TheVariants as fault

-- the lines of notes
abbrev lines_text : List Note → List ℕ
lines_text notes = concat (map note_line notes)

lines_of_both : (some more : List Note) → lines_text (some ++ more) ≡ lines_text some ++ lines_text more
lines_of_both some more =
    ap concat (map-append note_line some more) ∙ concat-append (map note_line some) (map note_line more)

notes_of_both : (some more : List Note) → notes_text some ++ lines_text more ≡ notes_text (some ++ more)
notes_of_both some more = append_assoc audit_header (lines_text some) (lines_text more)
    ∙ ap (λ l. audit_header ++ l) (sym (lines_of_both some more))

-- The log of the first of these notes was written, and the lines of the others are gathered.
abbrev pub Stands : Option (List ℕ) → Option (List ℕ) → List ℕ → List Note → Type 0
Stands old now gathered notes = (sent : List Note) × (held : List Note) × (notes ≡ sent ++ held)
    × Appends old now (notes_text sent) × (gathered ≡ lines_text held)

-- behind the header
pub begun : (old now : Option (List ℕ)) → Appends old now audit_header → Stands old now [] []
begun old now first = ([], [], refl, subst (Appends old now) (sym (append-nil audit_header)) first, refl)

-- one more line was gathered, or written with all the others
one_more : (held : List Note) (note : Note) → lines_text held ++ note_line note ≡ lines_text (held ++ (note ∷ []))
one_more held note =
    ap (λ l. lines_text held ++ l) (sym (append-nil (note_line note))) ∙ sym (lines_of_both held (note ∷ []))

pub line_added : (old now new : Option (List ℕ)) (gathered left : List ℕ) (notes : List Note) (note : Note)
    (done : Unit {0}) → Stands old now gathered notes
    → GathersOrEnds (gathered ++ note_line note) now new left (Ok done) → Stands old new left (notes ++ (note ∷ []))
line_added old now new gathered left notes note done (sent, held, all, written, same) (inl (kept, is)) = (
  sent,
  held ++ (note ∷ []),
  ap (λ l. l ++ (note ∷ [])) all ∙ append_assoc sent held (note ∷ []),
  Appends-kept old now new (notes_text sent) written kept,
  is ∙ ap (λ l. l ++ note_line note) same ∙ one_more held note,
)
line_added old now new gathered left notes note done (sent, held, all, written, same) (inr (wrote, none)) =
    let lines : gathered ++ note_line note ≡ lines_text (held ++ (note ∷ [])) =
    ap (λ l. l ++ note_line note) same ∙ one_more held note in
    let more : notes ++ (note ∷ []) ≡ sent ++ (held ++ (note ∷ [])) =
    ap (λ l. l ++ (note ∷ [])) all ∙ append_assoc sent held (note ∷ []) in
    let text = ap (λ l. notes_text sent ++ l) lines ∙ notes_of_both sent (held ++ (note ∷ []))
    ∙ ap notes_text (sym more) in (
      notes ++ (note ∷ []),
      [],
      sym (append-nil (notes ++ (note ∷ []))),
      subst (Appends old new) text (Appends-trans old now new _ _ written wrote),
      none,
    )

-- the lines of some notes behind those that were sent were to be written
lines_ended : (old now new : Option (List ℕ)) (sent more rest : List Note) (why : LogFault)
    → Appends old now (notes_text sent) → LinesEnd (lines_text more) now new (Err why)
    → LogEnds ((sent ++ more) ++ rest) old new (Err why)
lines_ended old now new sent more rest fault.Write first stop =
    let text : (notes_text sent ++ lines_text more) ++ lines_text rest ≡ notes_text ((sent ++ more) ++ rest) =
    ap (λ l. l ++ lines_text rest) (notes_of_both sent more) ∙ notes_of_both (sent ++ more) rest in
    subst (AppendsPrefix old new) text
    (prefix_next old now new (notes_text sent) (lines_text more) (lines_text rest) first stop)
lines_ended old now new sent more rest fault.Memory first stop =
    (sent, more ++ rest, append_assoc sent more rest, Appends-kept old now new (notes_text sent) first stop)

-- a line could not be added
pub line_failed : (old now new : Option (List ℕ)) (gathered left : List ℕ) (notes all rest : List Note) (note : Note)
    (why : LogFault) → Stands old now gathered notes → all ≡ notes ++ (note ∷ rest)
    → GathersOrEnds (gathered ++ note_line note) now new left (Err why) → LogEnds all old new (Err why)
line_failed old now new gathered left notes all rest note why (sent, held, are, written, same) whole stop =
    let lines : gathered ++ note_line note ≡ lines_text (held ++ (note ∷ [])) =
    ap (λ l. l ++ note_line note) same ∙ one_more held note in
    let parts : all ≡ (sent ++ (held ++ (note ∷ []))) ++ rest =
    whole ∙ ap (λ l. l ++ (note ∷ rest)) are ∙ append_assoc sent held (note ∷ rest)
    ∙ sym (append_assoc sent (held ++ (note ∷ [])) rest ∙ ap (λ l. sent ++ l) (append_assoc held (note ∷ []) rest)) in
    subst (λ l. LogEnds l old new (Err why)) (sym parts)
    (lines_ended old now new sent (held ++ (note ∷ [])) rest why written
    (subst (λ l. LinesEnd l now new (Err why)) lines stop))

-- the last lines were written, or not
pub rest_ended : (old now new : Option (List ℕ)) (gathered : List ℕ) (notes : List Note)
    (result : Result (Unit {0}) LogFault) → Stands old now gathered notes → LinesEnd gathered now new result
    → LogEnds notes old new result
rest_ended old now new gathered notes (Ok done) (sent, held, all, written, same) h =
    let text = ap (λ l. notes_text sent ++ l) same ∙ notes_of_both sent held ∙ ap notes_text (sym all) in
    subst (Appends old new) text (Appends-trans old now new _ _ written h)
rest_ended old now new gathered notes (Err why) (sent, held, all, written, same) h =
    let stop = subst (λ l. LinesEnd l now new (Err why)) same h in
    subst (λ l. LogEnds l old new (Err why)) (append-nil (sent ++ held) ∙ sym all)
    (lines_ended old now new sent held [] why written stop)

-- the header could not be written
pub header_failed : (old new : Option (List ℕ)) (notes : List Note) → AppendsPrefix old new audit_header
    → LogEnds notes old new (Err fault.Write)
header_failed old new notes stop = prefix_next old old new [] audit_header (lines_text notes) (Appends-nil old) stop
