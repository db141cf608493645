-- The walks, as a desk understands them.
use Rattle.std.proofs.Common.{refl, [], ◌∷◌, pos}
use Rattle.sqlite_tied.specs.Compute.{everything}
use Rattle.sqlite.specs.Listing.{understood}
use Rattle.sqlite_value.specs.declared.value.Value.TheVariants.{Int, Null}
use Rattle.sqlite_value.specs.declared.keys.Collation.TheVariants.{Binary}
use Rattle.sqlite_value.specs.Keys.{ascending}
use Rattle.sqlite.specs.Term.{lit, col}
use Rattle.sqlite_sql.specs.Term.{op2}
use Rattle.sqlite_sql.specs.declared.ops.BinaryOp.TheVariants.{Arith, Is}
use Rattle.sqlite_sql.specs.declared.ops.ArithOp.TheVariants.{Add, Sub}
use Rattle.hotel_statements.specs.Trees.{kind_tree, room_tree, stay_tree, code_tree, card_tree, inside_tree, note_tree}
use Rattle.hotel_statements.specs.Trees.{fit_tree}
use Rattle.hotel_statements.specs.LookUps.{Asks}
use Rattle.hotel_statements.specs.Texts as text
use Rattle.hotel_statements.proofs.Answers.{single}
use Rattle.hotel_statements.proofs.Statements.Terms.{column_is, columns, all_seven, all_eight}
use Rattle.sqlite.specs.Query.{inner, left, end}
use Rattle.sqlite_sql.specs.declared.ops.CompareOp.TheVariants.{Eq, Lt, Le, Gt}
use Rattle.hotel_statements.specs.Schema.{compare}

pub walk_arrivals : Asks text.walk_arrivals
    (single stay_tree (compare Eq (col 1 6) (lit (Int (pos 0))) ∷ compare Le (col 1 4) (col 0 0)
    ∷ compare Lt (col 0 0) (col 1 5) ∷ []) all_seven ((col 1 0, ascending Binary) ∷ []))
unfolding understood everything
walk_arrivals = record { query = (_, refl); plain = (refl, refl); listing = refl }

pub walk_chain : Asks text.walk_chain
    (single code_tree (column_is 2 0 ∷ []) (columns (3 ∷ 0 ∷ [])) ((col 1 3, ascending Binary) ∷ []))
unfolding understood everything
walk_chain = record { query = (_, refl); plain = (refl, refl); listing = refl }

pub walk_audit : Asks text.walk_audit
    (single note_tree (column_is 1 0 ∷ []) all_eight ((col 1 2, ascending Binary) ∷ []))
unfolding understood everything
walk_audit = record { query = (_, refl); plain = (refl, refl); listing = refl }

pub walk_in_house : Asks text.walk_in_house
    (record (single room_tree (compare Eq (col 2 0) (col 1 6) ∷ [])
    (col 1 0 ∷ col 1 6 ∷ col 2 2 ∷ col 2 3 ∷ col 2 5 ∷ col 1 5 ∷ []) ((col 1 0, ascending Binary) ∷ []))
    { from = inner room_tree (inner stay_tree end) })
unfolding understood everything
walk_in_house = record { query = (_, refl); plain = (refl, refl); listing = refl }

pub walk_left_behind : Asks text.walk_left_behind (record (single room_tree
    (compare Eq (col 2 2) (col 1 0) ∷ compare Eq (col 2 3) (col 1 3)
    ∷ compare Eq (col 3 2) (col 1 0) ∷ compare Eq (col 3 3)
    (op2 (Arith Sub) (col 1 4) (lit (Int (pos 1))))
    ∷ compare Lt (op2 (Arith Add) (col 1 3) (lit (Int (pos 2)))) (col 1 4) ∷ [])
    (col 1 0 ∷ col 2 0 ∷ col 3 0 ∷ col 1 3 ∷ col 1 4 ∷ []) ((col 1 0, ascending Binary) ∷ []))
    { from = inner room_tree (inner code_tree (inner code_tree end)) })
unfolding understood everything
walk_left_behind = record { query = (_, refl); plain = (refl, refl); listing = refl }

pub walk_room_status : Asks text.walk_room_status
    (single room_tree [] (columns (0 ∷ 2 ∷ 6 ∷ 3 ∷ 4 ∷ 5 ∷ [])) ((col 1 0, ascending Binary) ∷ []))
unfolding understood everything
walk_room_status = record { query = (_, refl); plain = (refl, refl); listing = refl }

pub walk_inside : Asks text.walk_inside
    (record (single inside_tree (compare Eq (col 2 0) (col 1 2) ∷ []) (col 1 1 ∷ col 1 2 ∷ col 2 2 ∷ [])
    ((col 1 1, ascending Binary) ∷ (col 1 2, ascending Binary) ∷ []))
    { from = inner inside_tree (inner card_tree end) })
unfolding understood everything
walk_inside = record { query = (_, refl); plain = (refl, refl); listing = refl }

pub walk_bookings : Asks text.walk_bookings
    (single stay_tree (compare Eq (col 1 6) (lit (Int (pos 0))) ∷ []) all_seven ((col 1 0, ascending Binary) ∷ []))
unfolding understood everything
walk_bookings = record { query = (_, refl); plain = (refl, refl); listing = refl }

pub walk_cards_given : Asks text.walk_cards_given
    (single card_tree (column_is 2 0 ∷ []) (columns (0 ∷ 2 ∷ 3 ∷ 4 ∷ [])) ((col 1 0, ascending Binary) ∷ []))
unfolding understood everything
walk_cards_given = record { query = (_, refl); plain = (refl, refl); listing = refl }

pub walk_locks : Asks text.walk_locks
    (record (single room_tree (compare Eq (col 2 1) (col 1 0) ∷ op2 (Is Binary) (col 3 1) (lit Null) ∷ [])
    (col 1 0 ∷ col 2 2 ∷ col 1 7 ∷ col 2 4 ∷ col 4 7 ∷ col 4 8 ∷ []) ((col 1 0, ascending Binary) ∷ [])) {
      from = inner room_tree (inner fit_tree
          (left fit_tree (compare Eq (col 3 1) (col 2 1) ∷ compare Gt (col 3 2) (col 2 2) ∷ [])
          (left note_tree (compare Eq (col 4 1) (col 1 0) ∷ compare Eq (col 4 2) (col 1 7) ∷ []) end)));
    })
unfolding understood everything
walk_locks = record { query = (_, refl); plain = (refl, refl); listing = refl }

pub walk_kinds : Asks text.read_kind
    (single kind_tree [] (columns (1 ∷ [])) ((col 1 1, ascending Binary) ∷ []))
unfolding understood everything
walk_kinds = record { query = (_, refl); plain = (refl, refl); listing = refl }
