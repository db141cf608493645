-- The cards inside rooms: they stand in order, and being inside is standing in the list.
use Rattle.std.proofs.Common.{ℕ, ◌≡◌, Bool, true, false, List, [], ◌∷◌, refl, ap, sym, ◌∙◌, ◌==◌, ◌&&◌, ◌||◌}
use Rattle.hotel_model.proofs.Names.{insert_key, when, pair_cmp, is_one_of, Refitted, Entered, Left, History, start}
use Rattle.hotel_model.proofs.Names.{◌▷◌, insiders, inside, those_in, Reached, moved, comes}
use Rattle.hotel_model.proofs.{OfTables.Pairs.pair_cmp_total, OfTables.Pairs.pair_is, Starts.StartCodes.orders}
use Rattle.hotel_model.proofs.OfTables.KeysInOrder.{InOrder, has_key, in_order_inserted, in_order_removed}
use Rattle.hotel_model.proofs.OfTables.KeysInOrder.{in_order_filtered, present_stays}

-- The cards inside rooms stand in order, none twice.
pub insiders_in_order : (h : History) → Reached h → InOrder pair_cmp (insiders h)
insiders_in_order (start t) ok = (orders t ok).inside
insiders_in_order (h ▷ Refitted room fit code) ok = in_order_filtered pair_cmp _ (insiders h) (insiders_in_order h ok.0)
insiders_in_order (h ▷ Entered room fit count number link at) ok =
    in_order_inserted pair_cmp pair_cmp_total (room, number) (insiders h) (insiders_in_order h ok.0)
insiders_in_order (h ▷ Left room fit count number link at) ok =
    in_order_removed pair_cmp (room, number) (insiders h) (insiders_in_order h ok.0)
insiders_in_order (h ▷ _) ok = insiders_in_order h ok.0

those_by : (b : Bool) (n m : ℕ) (ns : List ℕ)
    → is_one_of n (when b (λ numbers. m ∷ numbers) ns) ≡ ((b && (m == n)) || is_one_of n ns)
those_by true n m ns = refl
those_by false n m ns = refl

-- A card is one of those of a room where the pair of the two is one of the keys.
pub those_are : (es : List (ℕ × ℕ)) (room number : ℕ)
    → is_one_of number (those_in es room) ≡ has_key pair_cmp (room, number) es
those_are [] room number = refl
those_are (e ∷ es) room number =
    those_by (e.0 == room) number e.1 (those_in es room)
    ∙ ap (λ b. ((e.0 == room) && (e.1 == number)) || b) (those_are es room number)
    ∙ ap (λ b. b || has_key pair_cmp (room, number) es) (sym (pair_is room number e))

-- A card is inside a room where the two stand in the list.
pub inside_is : (h : History) (room number : ℕ)
    → is_one_of number (inside h room) ≡ has_key pair_cmp (room, number) (insiders h)
inside_is h room number = those_are (insiders h) room number

came_by : (b : Bool) (h : History) (room number : ℕ)
    → (b ≡ true → insert_key pair_cmp (insiders h) (room, number) ≡ insiders h)
    → insert_key pair_cmp (insiders h) (room, number) ≡ moved (comes b number) room (insiders h)
came_by true h room number f = f refl
came_by false h room number f = refl

-- A card comes in, or was inside already and stays.
pub card_came : (h : History) (room number : ℕ) → Reached h → insert_key pair_cmp (insiders h) (room, number)
    ≡ moved (comes (is_one_of number (inside h room)) number) room (insiders h)
card_came h room number ok =
    came_by (is_one_of number (inside h room)) h room number
    (λ t. present_stays pair_cmp pair_cmp_total (room, number) (insiders h) (insiders_in_order h ok)
    (sym (inside_is h room number) ∙ t))
