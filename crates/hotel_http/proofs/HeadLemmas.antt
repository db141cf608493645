-- What the first bytes of an input say of all of it.
use Rattle.std.proofs.Common.{◌≡◌, ℕ, ◌<◌, ◌≤◌, List, [], ◌++◌, length, take, drop, sym, ap, ◌∙◌, subst, arith}
use Rattle.std.proofs.Common.{append_assoc, append-nil, length-append, length-take, take-append-drop, take_all}
use Rattle.std.specs.Prelude.{Option, Some, None, IfSome, Bool, true}
use Rattle.std.specs.Io.KnownBytes.{Consumes, IsAtEnd}
use Rattle.std.proofs.KnownBytes.{Consumes-trans}
use Rattle.std.proofs.lemmas.Bool.{eqb-true}
use Rattle.std.proofs.lemmas.List.{length-map, take-append-le, drop-append-le}
use lib.Dec.{eqb}
use Rattle.httparse.specs.Grammar.{RequestHead, print_request, ReadsRequest, HasNoRequest, NeverHasRequest}
use Rattle.httparse.specs.{Spans.IsRequestAt, Spans.IsRequestOf, Spans.IsRequestWithin, Spans.RequestOverflows}
use Rattle.httparse.specs.{Spans.RequestExceeds, declared.spans.HeaderSpan.HeaderSpan}
use Rattle.httparse.specs.declared.spans.RequestSpans.{RequestSpans}
use Rattle.hotel_streams.specs.Bytes.{ReadsOnto}
use Rattle.hotel_http.specs.declared.head.Judged.{Judged}
use Rattle.hotel_http.specs.Head.{BeginsWith, HasNoHead, IsCut, IsMalformed, IsTooLong, HasTooManyFields, IsJudged}
use Rattle.hotel_http.specs.declared.head.TheConstants.{HEAD_BYTES, HEAD_FIELDS}

-- A head stays one where more follows.
reads_longer : (prefix more : List ℕ) (h : RequestHead) (rest : List ℕ)
    → ReadsRequest prefix h rest → ReadsRequest (prefix ++ more) h (rest ++ more)
reads_longer prefix more h rest (is, e) = (is, ap (λ l. l ++ more) e ∙ append_assoc (print_request h) rest more)

never_longer : (prefix more : List ℕ) → NeverHasRequest prefix → NeverHasRequest (prefix ++ more)
never_longer prefix more never after = subst HasNoRequest (sym (append_assoc prefix more after)) (never (more ++ after))

exceeds_longer : (room : ℕ) (prefix more : List ℕ) → RequestExceeds room prefix → RequestExceeds room (prefix ++ more)
exceeds_longer room prefix more (lines, rest, e, h, reads, over) =
    (lines, rest ++ more, ap (λ l. l ++ more) e ∙ append_assoc lines rest more, h, reads, over)

no_head_where_overflows : (prefix more : List ℕ) → RequestOverflows HEAD_FIELDS prefix → HasNoHead (prefix ++ more)
no_head_where_overflows prefix more over h rest begins =
    let many = over more h rest begins.reads in
    let few = begins.few in
    absurd (omega arith)

-- The first n bytes and what is left of the input.
joins : (n : ℕ) (bytes more : List ℕ) → bytes ++ more ≡ take n bytes ++ (drop n bytes ++ more)
joins n bytes more =
    ap (λ l. l ++ more) (sym (take-append-drop n bytes)) ∙ append_assoc (take n bytes) (drop n bytes) more

along : (P : List ℕ → Type 0) (n : ℕ) (bytes more : List ℕ)
    → P (take n bytes ++ (drop n bytes ++ more)) → P (bytes ++ more)
along P n bytes more p = subst P (sym (joins n bytes more)) p

pub malformed : (n : ℕ) (bytes more : List ℕ) → NeverHasRequest (take n bytes) → IsMalformed (bytes ++ more)
malformed n bytes more never = along NeverHasRequest n bytes more (never_longer _ (drop n bytes ++ more) never)

pub too_many_fields : (n : ℕ) (bytes more : List ℕ)
    → RequestOverflows HEAD_FIELDS (take n bytes) → RequestExceeds HEAD_FIELDS (take n bytes)
    → HasTooManyFields (bytes ++ more)
too_many_fields n bytes more over exceeds = (
  along (RequestExceeds HEAD_FIELDS) n bytes more (exceeds_longer _ _ _ exceeds),
  along HasNoHead n bytes more (no_head_where_overflows _ _ over),
)

pub too_long : (n : ℕ) (bytes more : List ℕ)
    → n ≡ HEAD_BYTES → n < length bytes → HasNoRequest (take n bytes) → IsTooLong (bytes ++ more)
too_long n bytes more is long none =
    let same : take n (bytes ++ more) ≡ take n bytes = take-append-le n bytes more (omega arith) in
    let longer : n < length (bytes ++ more) = simp length-append (omega arith) in
    record {
      long = subst (λ (k : ℕ). k < length (bytes ++ more)) is longer;
      none = subst (λ (k : ℕ). HasNoRequest (take k (bytes ++ more))) is (subst HasNoRequest (sym same) none);
    }

pub cut : (n : ℕ) (bytes more : List ℕ) → n ≡ HEAD_BYTES → length bytes ≤ n → 0 < length bytes → more ≡ []
    → HasNoRequest (take n bytes) → IsCut (bytes ++ more)
cut n bytes more is short some end none =
    let all : bytes ≡ bytes ++ more = sym (ap (λ l. bytes ++ l) end ∙ append-nil bytes) in
    subst IsCut all (record {
      some = some;
      short = subst (λ (k : ℕ). length bytes ≤ k) is short;
      none = subst HasNoRequest (take_all n bytes short) none;
    })

-- A head that the first bytes have is the one that all begin with.
pub begins : (n : ℕ) (bytes more : List ℕ) (headers : List HeaderSpan) (spans : RequestSpans) (h : RequestHead)
    → n ≡ HEAD_BYTES → length headers ≡ HEAD_FIELDS
    → IsRequestWithin (take n bytes) headers spans → IsRequestAt (take n bytes) headers spans h
    → BeginsWith (bytes ++ more) h (drop spans.len (bytes ++ more))
begins n bytes more headers spans h is room within at =
    let prefix = take n bytes in
    let left = drop n bytes ++ more in
    let len = within.section.len_fits in
    let here = reads_longer prefix left h (drop spans.len prefix) at.reads in
    let rest : drop spans.len prefix ++ left ≡ drop spans.len (prefix ++ left) =
    sym (drop-append-le spans.len prefix left len) in
    let there : ReadsRequest (prefix ++ left) h (drop spans.len (prefix ++ left)) =
    subst (ReadsRequest (prefix ++ left) h) rest here in
    let inside : length prefix ≤ n = rw (length-take n bytes) (omega arith) in
    let covered : length (take spans.headers headers) ≡ length h.fields =
    sym (length-map (take spans.headers headers) _) ∙ ap length at.fields ∙ length-map h.fields _ in
    let written : length (take spans.headers headers) ≤ length headers =
    rw (length-take spans.headers headers) (omega arith) in
    let small : length (print_request h) ≤ n = subst (λ (k : ℕ). k ≤ n) at.len (omega arith) in
    let few : length h.fields ≤ HEAD_FIELDS = subst (λ (k : ℕ). k ≤ HEAD_FIELDS) covered
    (subst (λ (k : ℕ). length (take spans.headers headers) ≤ k) room written) in
    record {
      reads = along (λ (l : List ℕ). ReadsRequest l h (drop spans.len l)) n bytes more there;
      short = subst (λ (k : ℕ). length (print_request h) ≤ k) is small;
      few = few;
    }

pub whole : (n : ℕ) (bytes more : List ℕ) (headers : List HeaderSpan) (spans : RequestSpans)
    → n ≡ HEAD_BYTES → length headers ≡ HEAD_FIELDS
    → IsRequestWithin (take n bytes) headers spans → IsRequestOf (take n bytes) headers spans
    → (h : RequestHead) × BeginsWith (bytes ++ more) h (drop spans.len (bytes ++ more))
    × IsRequestAt (take n bytes) headers spans h
whole n bytes more headers spans is room within (h, at) = (h, begins n bytes more headers spans h is room within at, at)

-- What holds however the bytes go on holds of the input.
of_input : (a b : Option (List ℕ)) (bytes : List ℕ) (at_end : Bool) (P : List ℕ → Type 0)
    → Consumes a b bytes → (at_end ≡ true → IsAtEnd b)
    → ((more : List ℕ) → (at_end ≡ true → more ≡ []) → P (bytes ++ more)) → IfSome a P
of_input None b bytes at_end P taken end all = tt
of_input (Some input) None bytes at_end P taken end all = absurd taken
of_input (Some input) (Some left) bytes at_end P taken end all = subst P (sym taken) (all left end)

-- One more piece was read, and what was judged of the bytes holds of the input.
pub judged_of_input : (n : ℕ) (headers : List HeaderSpan) (judged : Judged) (a b c : Option (List ℕ))
    (before items slice : List ℕ) (got : ℕ) → slice ≡ items
    → Consumes a b before → ReadsOnto b c before items got → (got ≡ 0 → IsAtEnd c)
    → ((more : List ℕ) → (eqb got 0 ≡ true → more ≡ []) → IsJudged (slice ++ more) (take n slice) headers judged)
    → IfSome a (λ input. IsJudged input (take n items) headers judged)
judged_of_input n headers judged a b c before items slice got same taken (bs, _, next, grown) end all =
    let read : Consumes a c items = subst (Consumes a c) (sym grown) (Consumes-trans a b c before bs taken next) in
    of_input a c items (eqb got 0)
    (λ input. IsJudged input (take n items) headers judged) read (λ e. end (eqb-true got 0 e))
    (subst (λ (l : List ℕ). (more : List ℕ)
    → (eqb got 0 ≡ true → more ≡ []) → IsJudged (l ++ more) (take n l) headers judged) same all)
