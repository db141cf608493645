-- The index after a stay was added or changed its state.
use Rattle.std.proofs.Common.{ℕ, ◌≡◌, ◌+◌, ◌-◌, ◌<◌, ◌^◌, Bool, true, false, cond, Option, Some, None, List, [], ◌∷◌}
use Rattle.std.proofs.Common.{length, refl, ap, sym, ◌∙◌, subst, arith, nat_le, nat_lt, count_by, ◌==◌, ◌&&◌, bytes_eq}
use Rattle.std.proofs.Common.{nat_cmp}
use Rattle.hotel_books.proofs.Names.{insert_entry, values_of, length-map, count_by-le-length, Stay, StayState, one_if}
use Rattle.hotel_books.proofs.Names.{takes, is_standing, nights_taken, said_of, at_number, in_state, now_is, counted}
use Rattle.hotel_books.proofs.Names.{spans, CountsNightsOf}
use Rattle.hotel_model.proofs.{OfTables.StayCounts.count_first, OfTables.StayCounts.count_inserted}
use Rattle.hotel_model.proofs.{OfTables.TableKeys.at_is}
use Rattle.hotel_books.proofs.OfTables.RowsChanged.{stay_absent}

-- a stay that stands takes the nights that it holds, and another none
pub takes_by : (stay : Stay) (kind : List ℕ) (d : ℕ)
    → is_standing stay.state ≡ true → takes kind d stay ≡ spans stay.kind stay.arrive stay.depart kind d
takes_by stay kind d h = ap (λ b. (b && bytes_eq stay.kind kind) && (nat_le stay.arrive d && nat_lt d stay.depart)) h

pub takes_none : (stay : Stay) (kind : List ℕ) (d : ℕ) → is_standing stay.state ≡ false → takes kind d stay ≡ false
takes_none stay kind d h = ap (λ b. (b && bytes_eq stay.kind kind) && (nat_le stay.arrive d && nat_lt d stay.depart)) h

-- no more are counted than there are stays
pub counts_fit : (counts : List ((List ℕ × ℕ) × List ℕ)) (es : List (ℕ × Stay)) (kind : List ℕ) (d : ℕ)
    → CountsNightsOf counts es → length es < 2 ^ 63 → counted counts kind d < 2 ^ 63
unfolding nights_taken
counts_fit counts es kind d h few =
    let e : counted counts kind d ≡ count_by (takes kind d) (values_of es) = h kind d in
    let le = count_by-le-length (takes kind d) (values_of es) in
    let same = length-map es (λ (x : ℕ × Stay). x.1) in
    omega (arith, e, le, same, few)

-- one more stay
pub stands_more : (before after : List ((List ℕ × ℕ) × List ℕ)) (es : List (ℕ × Stay)) (party : ℕ) (stay : Stay)
    → CountsNightsOf before es → at_number es party ≡ None
    → ((k : List ℕ) (d : ℕ) → counted after k d ≡ counted before k d + one_if (takes k d stay))
    → CountsNightsOf after (insert_entry nat_cmp es party stay)
unfolding nights_taken
stands_more before after es party stay h new u k d =
    let now : count_by (takes k d) (values_of (insert_entry nat_cmp es party stay))
    ≡ one_if (takes k d stay) + count_by (takes k d) (values_of es) = count_inserted (takes k d) es party stay new in
    let was : counted before k d ≡ count_by (takes k d) (values_of es) = h k d in
    let is = u k d in
    omega (arith, now, was, is)

there : {a b : Stay} → Some a ≡ Some b → a ≡ b
there h = cc

counts_by : (b : Bool) (p : Stay → Bool) (s : StayState) (e : ℕ × Stay) (es later : List (ℕ × Stay)) (stay : Stay)
    → (b ≡ true → e.1 ≡ stay)
    → (b ≡ false
    → count_by p (values_of later) + one_if (p stay) ≡ count_by p (values_of es) + one_if (p (now_is s stay)))
    → count_by p (values_of (cond b ((e.0, now_is s e.1) ∷ es) (e ∷ later))) + one_if (p stay)
    ≡ count_by p (e.1 ∷ values_of es) + one_if (p (now_is s stay))
counts_by true p s e es later stay f g =
    let q : e.1 ≡ stay = f refl in
    let was = count_first p e.1 (values_of es) in
    let now = count_first p (now_is s e.1) (values_of es) in
    let same = ap (λ (x : Stay). one_if (p x)) q in
    let same_now = ap (λ (x : Stay). one_if (p (now_is s x))) q in
    omega (arith, was, now, same, same_now)
counts_by false p s e es later stay f g =
    let was = count_first p e.1 (values_of es) in
    let now = count_first p e.1 (values_of later) in
    let rest = g refl in
    omega (arith, was, now, rest)

head_is : (b : Bool) (x y : Stay) (rest : Option Stay) → cond b (Some x) rest ≡ Some y → b ≡ true → x ≡ y
head_is true x y rest h t = there h
head_is false x y rest h t = absurd (let w : ◌≡◌ {A = Bool} false true = t in cc)

tail_is : (b : Bool) (x y : Stay) (rest : Option Stay) → cond b (Some x) rest ≡ Some y → b ≡ false → rest ≡ Some y
tail_is true x y rest h t = absurd (let w : ◌≡◌ {A = Bool} true false = t in cc)
tail_is false x y rest h t = h

-- how many stays pass a test, after one of them changed its state
pub counts_changed : (p : Stay → Bool) (party : ℕ) (s : StayState) (es : List (ℕ × Stay)) (stay : Stay)
    → at_number es party ≡ Some stay
    → count_by p (values_of (in_state party s es)) + one_if (p stay)
    ≡ count_by p (values_of es) + one_if (p (now_is s stay))
counts_changed p party s [] stay h = absurd (let w : ◌≡◌ {A = Option Stay} None (Some stay) = h in cc)
counts_changed p party s (e ∷ es) stay h =
    let turned : cond (e.0 == party) (Some e.1) (at_number es party) ≡ Some stay =
    ap (λ b. cond b (Some e.1) (at_number es party)) (sym (at_is party e.0)) ∙ h in
    counts_by (e.0 == party) p s e es (in_state party s es) stay
    (λ t. head_is (e.0 == party) e.1 stay (at_number es party) turned t)
    (λ f. counts_changed p party s es stay (tail_is (e.0 == party) e.1 stay (at_number es party) turned f))

-- a stay is done or cancelled
pub stands_less : (before after : List ((List ℕ × ℕ) × List ℕ)) (es : List (ℕ × Stay)) (party : ℕ) (s : StayState)
    (stay : Stay) → CountsNightsOf before es → at_number es party ≡ Some stay → is_standing s ≡ false
    → ((k : List ℕ) (d : ℕ) → counted after k d ≡ counted before k d - one_if (takes k d stay))
    → CountsNightsOf after (in_state party s es)
unfolding nights_taken
stands_less before after es party s stay h at ends u k d =
    let moved = counts_changed (takes k d) party s es stay at in
    let new = ap one_if (takes_none (now_is s stay) k d ends) in
    let was : counted before k d ≡ count_by (takes k d) (values_of es) = h k d in
    let is = u k d in
    omega (arith, moved, new, was, is)

-- a stay that stands as it stood, or as little as it did
pub stands_same : (counts : List ((List ℕ × ℕ) × List ℕ)) (es : List (ℕ × Stay)) (party : ℕ) (s : StayState)
    (stay : Stay) → CountsNightsOf counts es → at_number es party ≡ Some stay
    → is_standing s ≡ is_standing stay.state → CountsNightsOf counts (in_state party s es)
unfolding nights_taken
stands_same counts es party s stay h at same k d =
    let moved = counts_changed (takes k d) party s es stay at in
    let old : one_if (takes k d (now_is s stay)) ≡ one_if (takes k d stay) =
    ap (λ b. one_if ((b && bytes_eq stay.kind k) && (nat_le stay.arrive d && nat_lt d stay.depart))) same in
    let was : counted counts k d ≡ count_by (takes k d) (values_of es) = h k d in
    omega (arith, moved, old, was)

pub none_stand : CountsNightsOf [] []
unfolding nights_taken
none_stand k d = refl

-- a stay that stood, if there is one, stands on
pub stands_on : (counts : List ((List ℕ × ℕ) × List ℕ)) (es : List (ℕ × Stay)) (party : ℕ) (s : StayState)
    → CountsNightsOf counts es → said_of (at_number es party) true (λ x. is_standing x.state) ≡ true
    → is_standing s ≡ true → CountsNightsOf counts (in_state party s es)
stands_on counts es party s h stood stands = by (at_number es party) refl stood
  where
    by : (o : Option Stay) → at_number es party ≡ o → said_of o true (λ x. is_standing x.state) ≡ true
        → CountsNightsOf counts (in_state party s es)
    by None e t = subst (λ stays. CountsNightsOf counts stays) (sym (stay_absent party s es e)) h
    by (Some stay) e t = stands_same counts es party s stay h e (stands ∙ sym t)
