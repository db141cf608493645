-- What a writer took of a text, whether it was written whole or not.
use Rattle.std.proofs.Common.{◌≡◌, ◌∙◌, ℕ, List, length, Option, Bool, true, false, Result, Ok, Err, arith, subst, sym}
use Rattle.std.proofs.lemmas.Bool.{false≢true}
use Rattle.std.proofs.lemmas.List.{take_all}
use Rattle.std.specs.Prelude.{OnOk, OnErr}
use Rattle.std.specs.Io.KnownBytes.{Appends}
use Rattle.hotel_streams.specs.Bytes.{AppendsPrefix}

pub prefix_taken : {E : Type 0} (r : Result (Unit {0}) E) (old new : Option (List ℕ)) (text : List ℕ)
    → OnOk r (Appends old new text) → OnErr r (AppendsPrefix old new text) → AppendsPrefix old new text
prefix_taken (Ok done) old new text whole prefix =
    (length text, omega arith, subst (Appends old new) (sym (take_all (length text) text (omega arith))) whole)
prefix_taken (Err why) old new text whole prefix = prefix

-- A text was taken whole where no write failed.
pub taken_whole : {E : Type 0} (r : Result (Unit {0}) E) (old new : Option (List ℕ)) (text : List ℕ) (failed : Bool)
    → OnOk r (Appends old new text) → OnErr r (failed ≡ true) → failed ≡ false → Appends old new text
taken_whole (Ok done) old new text failed whole err unfailed = whole
taken_whole (Err why) old new text failed whole err unfailed = absurd (false≢true (sym unfailed ∙ err))
