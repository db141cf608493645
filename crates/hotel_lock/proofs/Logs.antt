-- What a lock's notes say of it.
use Rattle.std.proofs.Common.{◌≡◌, ℕ, Bool, true, false, List, [], ◌∷◌, ◌++◌, Option, Some, None, IfSome, refl, sym}
use Rattle.std.proofs.Common.{ap, suc, ◌∙◌, subst, append_assoc, append-nil, if◌then◌else◌, option_map, take, drop}
use Rattle.std.proofs.Common.{get_or, length, ◌+◌, ◌<◌, add-one, drop-cons, ◌==◌}
use Rattle.std.proofs.Math.Seq.{take-suc}
use Rattle.keycard_rules.specs.declared.card.Link.{Link}
use Rattle.keycard_rules.specs.declared.note.Act.{Act}
use Rattle.keycard_rules.specs.declared.note.Act.TheVariants.{Entered, Left, Recoded}
use Rattle.keycard_rules.specs.{Note.Note, Lock.turn}
use Rattle.hotel_nights.specs.Moments.{moment_of}
use Rattle.hotel_lock.specs.Door.{Lock, Noted, acts, fitted, leaves}
use Rattle.hotel_lock.specs.Log.{has_count, lock_after, note_of}
use Rattle.hotel_lock.specs.Logged.{IsLogOf, Makes, MakesAll, does}

-- the lock behind what was done is that of the same room, with the same number
abbrev pub KeepsDoor : Lock → Option Noted → Type 0
KeepsDoor lock done = IfSome done (λ noted. (noted.lock.room ≡ lock.room) × (noted.lock.fit ≡ lock.fit))

entry_keeps : (lock : Lock) (number : ℕ) (link : Link) (at : ℕ × ℕ) (code : Option ℕ)
    → KeepsDoor lock (option_map (λ code. acts lock (Entered number link) code at) code)
entry_keeps lock number link at None = tt
entry_keeps lock number link at (Some code) = (refl, refl)

where_keeps : (lock : Lock) (b : Bool) (noted : Option Noted) → KeepsDoor lock noted
    → KeepsDoor lock (if b then noted else None)
where_keeps lock true noted h = h
where_keeps lock false noted h = tt

set_keeps : (lock : Lock) (b : Bool) (noted : Noted) → KeepsDoor lock (Some noted)
    → KeepsDoor lock (if b then None else Some noted)
set_keeps lock true noted h = tt
set_keeps lock false noted h = h

pub does_keeps : (lock : Lock) (notes : List Note) (act : Act) (at : ℕ × ℕ) → KeepsDoor lock (does lock notes act at)
does_keeps lock notes (Entered number link) at =
    where_keeps lock (has_count lock) _ (entry_keeps lock number link at (turn lock.held link))
does_keeps lock notes (Left number link) at = where_keeps lock _ (Some (leaves lock number link at)) (refl, refl)
does_keeps lock notes (Recoded from to) at =
    where_keeps lock (has_count lock) _ (set_keeps lock (lock.held == to) _ (refl, refl))

-- a lock that makes a note stays that of its door
pub makes_keeps : (lock : Lock) (notes : List Note) (note : Note) (after : Lock) → Makes lock notes note after
    → (after.room ≡ lock.room) × (after.fit ≡ lock.fit)
makes_keeps lock notes note after h = subst (KeepsDoor lock) h (does_keeps lock notes note.act (moment_of note))

-- what was done, by its note and the lock behind it
pub done_is : (lock after : Lock) (done : Option Noted) (note : Note) → note_of done ≡ Some note
    → after ≡ lock_after lock done → done ≡ Some (record { lock = after; note = note })
done_is lock after None note e f = cc
done_is lock after (Some noted) note e f =
    let same : noted.note ≡ note = cc in λ i. Some (record { lock = sym f i; note = same i })

-- one more note
pub made_more : (start : Lock) (before notes : List Note) (lock : Lock) (note : Note) (after : Lock)
    → MakesAll start before notes lock → Makes lock (before ++ notes) note after
    → MakesAll start before (notes ++ (note ∷ [])) after
made_more start before [] lock note after same makes =
    let P : Lock → List Note → Type 0 = λ l b. Makes l b note after in
    (after, subst (λ l. P l before) same (subst (P lock) (append-nil before) makes), refl)
made_more start before (n ∷ later) lock note after (mid, first, rest) makes =
    let P : List Note → Type 0 = λ b. Makes lock b note after in (
      mid,
      first,
      made_more mid (before ++ (n ∷ [])) later lock note after rest
          (subst P (sym (append_assoc before (n ∷ []) later)) makes),
    )

-- so a log with one more note is a log of the same door
pub kept_log : (first : ℕ) (lock : Lock) (notes items : List Note) (note : Note) (after : Lock)
    → IsLogOf lock.room lock.fit first notes lock → Makes lock notes note after → items ≡ notes ++ (note ∷ [])
    → IsLogOf after.room after.fit first items after
kept_log first lock notes items note after log makes same =
    let P : ℕ → ℕ → List Note → Type 0 = λ room fit all. IsLogOf room fit first all after in
    let door = makes_keeps lock notes note after makes in
    let more : P lock.room lock.fit (notes ++ (note ∷ []))
    = made_more (fitted lock.room lock.fit first) [] notes lock note after log makes in
    subst (λ room. P room after.fit items) (sym door.0) (subst (λ fit. P lock.room fit items) (sym door.1)
    (subst (P lock.room lock.fit) (sym same) more))

-- a log in two parts at a place: the notes before it and the one at it, or that one and the later ones
pub take_one : (all : List Note) (i : ℕ) (note : Note) → i < length all → note ≡ get_or all i note
    → take (i + 1) all ≡ take i all ++ (note ∷ [])
take_one all i note below is =
    rw add-one (take-suc all i note below ∙ ap (λ n. take i all ++ (n ∷ [])) (sym is))

pub drop_one : (all : List Note) (i : ℕ) (note : Note) → i < length all → note ≡ get_or all i note
    → drop i all ≡ note ∷ drop (i + 1) all
drop_one all i note below is =
    rw add-one (drop-cons all i note below ∙ ap (λ n. n ∷ drop (suc i) all) (sym is))

-- a lock that makes a note stands so in one way alone
pub one_after : (lock after : Lock) (before : List Note) (note : Note) (later : List Note) (end : Lock)
    → Makes lock before note after → MakesAll lock before (note ∷ later) end
    → MakesAll after (before ++ (note ∷ [])) later end
one_after lock after before note later end makes (mid, first, rest) =
    let noted : Lock → Noted = λ lock. record { lock = lock; note = note } in
    let same : noted mid ≡ noted after = cc in
    subst (λ l. MakesAll l (before ++ (note ∷ [])) later end) (ap (λ (n : Noted). n.lock) same) rest

-- the notes that are left, behind one more
pub left_less : (lock after : Lock) (before items all : List Note) (i : ℕ) (note : Note) (end : Lock) → i < length all
    → note ≡ get_or all i note → Makes lock before note after → items ≡ before ++ (note ∷ [])
    → MakesAll lock before (drop i all) end → MakesAll after items (drop (i + 1) all) end
left_less lock after before items all i note end below is makes same left =
    let P : List Note → Type 0 = λ rest. MakesAll lock before rest end in
    subst (λ b. MakesAll after b (drop (i + 1) all) end) (sym same)
    (one_after lock after before note (drop (i + 1) all) end makes (subst P (drop_one all i note below is) left))

-- and so it stands in one way behind all its notes
pub ends_once : (lock : Lock) (before notes : List Note) (end other : Lock) → MakesAll lock before notes end
    → MakesAll lock before notes other → end ≡ other
ends_once lock before [] end other h k = h ∙ sym k
ends_once lock before (note ∷ later) end other (after, makes, rest) k =
    ends_once after (before ++ (note ∷ [])) later end other rest (one_after lock after before note later other makes k)
