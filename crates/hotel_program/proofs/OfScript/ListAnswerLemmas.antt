-- The answer to a list, as it is written.
use Rattle.std.proofs.Common.{◌≡◌, ◌∙◌, ℕ, ◌-◌, Bool, true, false, ◌||◌, List, [], ◌++◌, length, drop, arith}
use Rattle.std.proofs.Common.{length-append, refl, sym, ap, subst, Option, Some, None, Result, Ok, Err, inl, inr}
use Rattle.std.proofs.Math.Seq.{drop-append_seam}
use Rattle.std.specs.Prelude.{OnOk, OnErr, bytes_eq}
use Rattle.std.specs.Io.KnownBytes.{Appends}
use Rattle.std.proofs.KnownBytes.{Appends-trans}
use Rattle.keycard_rules.specs.{declared.kept.Kept.Ghosts as KeptOf, Calls.NoCallFailed, Calls.Told, Calls.all_answer}
use Rattle.keycard_rules.specs.declared.issued.LookFault.TheVariants as look
use Rattle.hotel_model.specs.declared.reply.Reply.TheVariants.{Refused}
use Rattle.hotel_model.specs.declared.reply.Refusal.{Refusal}
use Rattle.hotel_model.specs.declared.reply.Refusal.TheVariants as refusal
use Rattle.hotel_model.specs.Run.{is_failed}
use Rattle.hotel_books.proofs.Names.{false≢true}
use Rattle.hotel_model.specs.declared.reply.Reply.{Reply}
use Rattle.hotel_core.specs.Texts.{reply_text}
use Rattle.hotel_streams.specs.Bytes.{AppendsPrefix}
use Rattle.hotel_lists.specs.Faults.{told_refusal}
use Rattle.hotel_lists.specs.RowLines.{ListTold, LooksAt}
use Rattle.hotel_lists.specs.declared.fault.ListFault.{ListFault}
use Rattle.hotel_lists.specs.declared.fault.ListFault.TheVariants as fault
use Rattle.hotel_lists.specs.Listings.{Listing, ListEnds}
use Rattle.hotel_books.specs.Books.Failures.{refusal_of}
use Rattle.hotel_core.proofs.OfCode.Counting.{faults}
use Rattle.hotel_program.specs.Script.ListAnswers.{AnswersList, refusal_text, ends_by, tells_failure}
use Rattle.hotel_program.proofs.OfScript.ScriptLemmas.{appends_prefix}

-- Such an answer was written so.
abbrev pub ListWritten : Option Listing → (List ℕ → Type 0) → Told → Type 0
ListWritten listing written told = (text : List ℕ) × AnswersList listing text told × written text

said_no_room : (listing : Option Listing) (old new : Option (List ℕ)) (why : Refusal) (told : Told)
    → told_refusal fault.NoRoom ≡ Some why → NoCallFailed told → ListEnds [] listing old new (Err fault.NoRoom)
    → (prefix : List ℕ) × AnswersList listing (prefix ++ refusal_text why) told × Appends old new prefix
said_no_room None old new why told e none p =
    let same : refusal.NoRoom ≡ why = cc e in ([], inl (ap refusal_text (sym same), none.1), p.1)
said_no_room (Some listing) old new why told e none p = cc p.0

-- whole lines of a list, which its refusal follows
refused_prefix : (listing : Option Listing) (old new : Option (List ℕ)) (why_not : ListFault) (why : Refusal)
    (told : Told) → told_refusal why_not ≡ Some why → ListTold (Err why_not) told
    → ListEnds [] listing old new (Err why_not)
    → (prefix : List ℕ) × AnswersList listing (prefix ++ refusal_text why) told × Appends old new prefix
refused_prefix listing old new fault.NoRoom why told e t p = said_no_room listing old new why told e t p
refused_prefix listing old new fault.Memory why told e t p =
    let same : refusal.Memory ≡ why = cc e in
    (p.0, inr (p.0, look.Memory, p.1, ap (λ (w : Refusal). p.0 ++ refusal_text w) (sym same), t), p.2)
refused_prefix listing old new fault.Store why told e t p =
    let same : refusal.Store ≡ why = cc e in
    (p.0, inr (p.0, look.Store, p.1, ap (λ (w : Refusal). p.0 ++ refusal_text w) (sym same), t), p.2)
refused_prefix listing old new fault.Write why told e t p = cc e

-- a text that a failure's line ends reports it
or_first : (a b : Bool) → a ≡ true → (a || b) ≡ true
or_first true b k = refl
or_first false b k = absurd (false≢true k)

or_then : (a b : Bool) → b ≡ true → (a || b) ≡ true
or_then true b k = refl
or_then false b k = k

its_end : (prefix end : List ℕ) → drop (length (prefix ++ end) - length end) (prefix ++ end) ≡ end
its_end prefix end =
    let n : length (prefix ++ end) - length end ≡ length prefix = omega (arith, length-append prefix end) in
    ap (λ (k : ℕ). drop k (prefix ++ end)) n ∙ drop-append_seam prefix end

by_its_end : (prefix end : List ℕ) → ends_by end end ≡ true → ends_by end (prefix ++ end) ≡ true
by_its_end prefix end k =
    let same : drop (length (prefix ++ end) - length end) (prefix ++ end) ≡ drop (length end - length end) end =
    its_end prefix end ∙ sym (its_end [] end) in
    ap (λ (l : List ℕ). bytes_eq l end) same ∙ k

pub told_failed : (prefix : List ℕ) (why : Refusal)
    → is_failed (Refused why) ≡ true → tells_failure (prefix ++ refusal_text why) ≡ true
told_failed prefix refusal.Memory k =
    or_first (ends_by (refusal_text refusal.Memory) (prefix ++ refusal_text refusal.Memory)) _
    (by_its_end prefix (refusal_text refusal.Memory) refl)
told_failed prefix refusal.Store k =
    or_then _ (ends_by (refusal_text refusal.Store) (prefix ++ refusal_text refusal.Store))
    (by_its_end prefix (refusal_text refusal.Store) refl)
told_failed prefix _ k = absurd (false≢true k)

-- a reply whose text reports no failure is none
pub reply_sure : (reply : Reply) → tells_failure (reply_text reply) ≡ false → is_failed reply ≡ false
reply_sure (Refused refusal.Memory) k = absurd (false≢true (sym k ∙ told_failed [] refusal.Memory refl))
reply_sure (Refused refusal.Store) k = absurd (false≢true (sym k ∙ told_failed [] refusal.Store refl))
reply_sure _ k = refl

-- where the text of a refusal reports no failure, no call failed
refusal_answered : (prefix : List ℕ) (why_not : ListFault) (why : Refusal) (told : Told)
    → told_refusal why_not ≡ Some why → ListTold (Err why_not) told → tells_failure (prefix ++ refusal_text why) ≡ false
    → NoCallFailed told
refusal_answered prefix fault.NoRoom why told e t k = t
refusal_answered prefix fault.Memory why told e t k =
    let same : refusal.Memory ≡ why = cc e in absurd (false≢true (sym k ∙ subst (λ (w : Refusal).
    tells_failure (prefix ++ refusal_text w) ≡ true) same (told_failed prefix refusal.Memory refl)))
refusal_answered prefix fault.Store why told e t k =
    let same : refusal.Store ≡ why = cc e in absurd (false≢true (sym k ∙ subst (λ (w : Refusal).
    tells_failure (prefix ++ refusal_text w) ≡ true) same (told_failed prefix refusal.Store refl)))
refusal_answered prefix fault.Write why told e t k = cc e

-- where a list's answer reports no failure, none of its calls did
pub none_told : (listing : Option Listing) (text : List ℕ) (told : Told) → AnswersList listing text told
    → tells_failure text ≡ false → all_answer told ≡ true
none_told listing text told (inl it) k = it.1
none_told listing text told (inr (prefix, why, is, e, failed)) k =
    absurd (false≢true (sym k ∙ ap tells_failure e ∙ told_failed prefix (refusal_of why) (faults why)))

-- An answer to a list that was written whole: these bytes, and where it reports no failure none of the calls did.
abbrev pub Whole : Option (List ℕ) → Option (List ℕ) → Told → List ℕ → Type 0
Whole old new told text = Appends old new text × (tells_failure text ≡ false → NoCallFailed told)

-- the whole answer of a list that was refused
pub refused_whole : {B : Type 0} {K : KeptOf B} {b c : B} (listing : Option Listing) (old mid new : Option (List ℕ))
    (why_not : ListFault) (why : Refusal) → told_refusal why_not ≡ Some why
    → ListEnds [] listing old mid (Err why_not) → (looks : LooksAt K b c (Err why_not))
    → Appends mid new (refusal_text why) → ListWritten listing (Whole old new looks.told) looks.told
refused_whole listing old mid new why_not why e p looks written =
    let r = refused_prefix listing old mid why_not why looks.told e looks.tells p in (
      r.0 ++ refusal_text why,
      r.1,
      (
        Appends-trans old mid new r.0 (refusal_text why) r.2 written,
        λ k. refusal_answered r.0 why_not why looks.told e looks.tells k,
      ),
    )

-- a prefix of the answer of a list that was refused
pub refused_cut : {B : Type 0} {K : KeptOf B} {b c : B} (listing : Option Listing) (old mid new : Option (List ℕ))
    (why_not : ListFault) (why : Refusal) → told_refusal why_not ≡ Some why
    → ListEnds [] listing old mid (Err why_not) → (looks : LooksAt K b c (Err why_not))
    → AppendsPrefix mid new (refusal_text why) → ListWritten listing (AppendsPrefix old new) looks.told
refused_cut listing old mid new why_not why e p looks written =
    let r = refused_prefix listing old mid why_not why looks.told e looks.tells p in
    (r.0 ++ refusal_text why, r.1, appends_prefix old mid new r.0 (refusal_text why) written r.2)

-- a list that was written whole
pub whole_answered : (listing : Option Listing) (old new : Option (List ℕ)) (told : Told)
    → ListEnds [] listing old new (Ok tt) → NoCallFailed told → ListWritten listing (Whole old new told) told
whole_answered None old new told p none = cc p.0
whole_answered (Some listing) old new told p none = (_, inl (refl, none.1), (p.1, λ k. none))

write_failed : (listing : Option Listing) (old new : Option (List ℕ)) (told : Told) → all_answer told ≡ true
    → ListEnds [] listing old new (Err fault.Write) → ListWritten listing (AppendsPrefix old new) told
write_failed None old new told answered p = absurd (p.0 refl refl)
write_failed (Some listing) old new told answered p = (_, inl (refl, answered), p.1)

-- a list whose write failed, which no refusal answers
pub cut_answered : (listing : Option Listing) (old new : Option (List ℕ)) (told : Told) (why_not : ListFault)
    → told_refusal why_not ≡ None → ListTold (Err why_not) told → ListEnds [] listing old new (Err why_not)
    → ListWritten listing (AppendsPrefix old new) told
cut_answered listing old new told fault.NoRoom e t p = cc e
cut_answered listing old new told fault.Memory e t p = cc e
cut_answered listing old new told fault.Store e t p = cc e
cut_answered listing old new told fault.Write e t p = write_failed listing old new told t p

pub when_ok : {T E : Type 0} (r : Result T E) (P Q : Type 0) → (P → Q) → OnOk r P → OnOk r Q
when_ok (Ok t) P Q f p = f p
when_ok (Err e) P Q f p = p

pub when_err : {T E : Type 0} (r : Result T E) (P Q : Type 0) → (P → Q) → OnErr r P → OnErr r Q
when_err (Ok t) P Q f p = p
when_err (Err e) P Q f p = f p
