-- Links of cards.
use Rattle.std.proofs.Common.{◌≡◌, ℕ, pos, suc, Bool, true, false, cond, ◌==◌, List, [], ◌∷◌, map, Option, Some, None}
use Rattle.std.proofs.Common.{refl, ap, ◌∙◌}
use Rattle.std.specs.Prelude.{is_some, option_map, ◌||◌}
use Rattle.std.specs.List.{list_any}
use Rattle.hotel_model.specs.Rows.{at_number, or_else}
use Rattle.hotel_books.proofs.OfTables.MapEntries.{eq_turned}
use Rattle.hotel_rows.specs.declared.stored.PlainCard.{PlainCard}
use Rattle.hotel_rows.specs.Stored.{number_of, link_row}
use Rattle.hotel_rows.specs.Keys.{place_in}
use Rattle.hotel_rows.specs.LastCards.{link_pair, link_of_pair, LastsOf}

any_by : (b : Bool) (o : Option ℕ) → is_some (cond b (Some 0) (option_map suc o)) ≡ (b || is_some o)
any_by true o = refl
any_by false (Some i) = refl
any_by false None = refl

-- a key stands somewhere exactly where some plain row has it
pub any_placed : {L : Type 0} (key : L → ℕ) (ls : List L) (q : ℕ)
    → is_some (place_in (map key ls) q) ≡ list_any (λ l. key l == q) ls
any_placed key [] q = refl
any_placed key (l ∷ ls) q =
    any_by (key l == q) (place_in (map key ls) q) ∙ ap (λ b. (key l == q) || b) (any_placed key ls q)

-- what stands past the end of a list of cards
abbrev pub no_card : PlainCard
no_card = record { number = pos 0; party = pos 0; old_code = pos 0; new_code = pos 0 }

last_by : (o : Option (ℕ × ℕ)) (plain : PlainCard) (b : Bool)
    → option_map link_of_pair (cond (is_some o) o (cond b (Some (link_pair plain)) None))
    ≡ or_else (option_map link_of_pair o) (cond b (Some (link_row plain)) None)
last_by (Some p) plain b = refl
last_by None plain true = refl
last_by None plain false = refl

-- a card more, before the others
pub lasts_more : (before after : List (ℕ × (ℕ × ℕ))) (plain : PlainCard) (plain_rows : List PlainCard)
    → LastsOf before plain_rows
    → ((p : ℕ) → at_number after p ≡ cond (is_some (at_number before p)) (at_number before p)
    (cond (p == number_of plain.party) (Some (link_pair plain)) None))
    → LastsOf after (plain ∷ plain_rows)
lasts_more before after plain plain_rows is put p =
    ap (option_map link_of_pair) (put p)
    ∙ last_by (at_number before p) plain (p == number_of plain.party)
    ∙ ap (λ b. or_else (option_map link_of_pair (at_number before p)) (cond b (Some (link_row plain)) None))
    (eq_turned p (number_of plain.party))
    ∙ ap (λ o. or_else o (cond (number_of plain.party == p) (Some (link_row plain)) None)) (is p)
