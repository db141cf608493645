-- The changes, as a desk understands them.
use Rattle.std.proofs.Common.{refl, [], ◌∷◌, pos}
use Rattle.sqlite_tied.specs.Compute.{everything}
use Rattle.sqlite.specs.Listing.{understood}
use Rattle.sqlite_value.specs.declared.value.Value.TheVariants.{Null, Int}
use Rattle.sqlite.specs.Term.{lit, col}
use Rattle.hotel_statements.specs.Trees.{meta_tree, room_tree, stay_tree, inside_tree}
use Rattle.hotel_statements.specs.Texts as text
use Rattle.hotel_statements.proofs.Answers.{single}
use Rattle.hotel_statements.proofs.Statements.Terms.{Does, by_rowid, by_pair, column_is}
use Rattle.sqlite.specs.Command.TheVariants.{Insert, Update, Delete}
use Rattle.sqlite.specs.Source.TheVariants.{Values}

pub insert_meta : Does text.insert_meta (Insert 0 (Values
    (lit (Int (pos 1)) ∷ lit Null ∷ lit (Int (pos 2)) ∷ lit Null ∷ []) 4))
unfolding understood everything
insert_meta = record { is = refl; plain = (refl, refl) }

pub insert_kind : Does text.insert_kind (Insert 1 (Values (lit Null ∷ col 0 0 ∷ []) 2))
unfolding understood everything
insert_kind = record { is = refl; plain = (refl, refl) }

pub insert_room : Does text.insert_room
    (Insert 2 (Values (col 0 0 ∷ lit Null ∷ col 0 1 ∷ col 0 2 ∷ col 0 3 ∷ col 0 4 ∷ col 0 5 ∷ col 0 6 ∷ []) 8))
unfolding understood everything
insert_room = record { is = refl; plain = (refl, refl) }

pub insert_stay : Does text.insert_stay
    (Insert 3 (Values (col 0 0 ∷ lit Null ∷ col 0 1 ∷ col 0 2 ∷ col 0 3 ∷ col 0 4 ∷ col 0 5 ∷ col 0 6 ∷ []) 8))
unfolding understood everything
insert_stay = record { is = refl; plain = (refl, refl) }

pub insert_code : Does text.insert_code (Insert 4 (Values (col 0 0 ∷ lit Null ∷ col 0 1 ∷ col 0 2 ∷ []) 4))
unfolding understood everything
insert_code = record { is = refl; plain = (refl, refl) }

pub insert_card : Does text.insert_card (Insert 5 (Values (col 0 0 ∷ lit Null ∷ col 0 1 ∷ col 0 2 ∷ col 0 3 ∷ []) 5))
unfolding understood everything
insert_card = record { is = refl; plain = (refl, refl) }

pub insert_inside : Does text.insert_inside (Insert 6 (Values (lit Null ∷ col 0 0 ∷ col 0 1 ∷ []) 3))
unfolding understood everything
insert_inside = record { is = refl; plain = (refl, refl) }

pub insert_note : Does text.insert_note (Insert 7
    (Values (lit Null ∷ col 0 0 ∷ col 0 1 ∷ col 0 2 ∷ col 0 3 ∷ col 0 4 ∷ col 0 5 ∷ col 0 6 ∷ col 0 7 ∷ []) 9))
unfolding understood everything
insert_note = record { is = refl; plain = (refl, refl) }

pub insert_fit : Does text.insert_fit (Insert 8 (Values (lit Null ∷ col 0 0 ∷ col 0 1 ∷ col 0 2 ∷ col 0 3 ∷ []) 5))
unfolding understood everything
insert_fit = record { is = refl; plain = (refl, refl) }

pub update_day : Does text.update_day
    (Update 0 (record {
      lets = [];
      body = single meta_tree by_rowid
          (col 1 0 ∷ col 1 0 ∷ lit Null ∷ col 1 2 ∷ col 0 1 ∷ []) [];
    }))
unfolding understood everything
update_day = record { is = refl; plain = (refl, refl) }

pub update_version : Does text.update_version
    (Update 0 (record {
      lets = [];
      body = single meta_tree by_rowid (col 1 0 ∷ col 1 0 ∷ lit Null ∷ col 0 1 ∷ col 1 3 ∷ []) [];
    }))
unfolding understood everything
update_version = record { is = refl; plain = (refl, refl) }

pub update_issued : Does text.update_issued
    (Update 2 (record {
      lets = [];
      body = single room_tree by_rowid
          (col 1 0 ∷ col 1 0 ∷ lit Null ∷ col 1 2 ∷ col 1 3 ∷ col 0 1 ∷ lit (Int (pos 0)) ∷ col 0 2 ∷ col 1 7 ∷ []) [];
    }))
unfolding understood everything
update_issued = record { is = refl; plain = (refl, refl) }

pub update_party : Does text.update_party
    (Update 2 (record {
      lets = [];
      body = single room_tree by_rowid
          (col 1 0 ∷ col 1 0 ∷ lit Null ∷ col 1 2 ∷ col 1 3 ∷ col 1 4 ∷ col 1 5 ∷ lit Null ∷ col 1 7 ∷ []) [];
    }))
unfolding understood everything
update_party = record { is = refl; plain = (refl, refl) }

pub update_noted : Does text.update_noted
    (Update 2 (record {
      lets = [];
      body = single room_tree by_rowid
          (col 1 0 ∷ col 1 0 ∷ lit Null ∷ col 1 2 ∷ col 0 1 ∷ col 1 4 ∷ col 0 2 ∷ col 1 6 ∷ col 0 3 ∷ []) [];
    }))
unfolding understood everything
update_noted = record { is = refl; plain = (refl, refl) }

pub update_refitted : Does text.update_refitted
    (Update 2 (record {
      lets = [];
      body = single room_tree by_rowid
          (col 1 0 ∷ col 1 0 ∷ lit Null ∷ col 1 2 ∷ col 0 1 ∷ col 0 2 ∷ lit (Int (pos 0)) ∷ col 1 6 ∷ col 1 7 ∷ []) [];
    }))
unfolding understood everything
update_refitted = record { is = refl; plain = (refl, refl) }

pub update_state : Does text.update_state
    (Update 3 (record {
      lets = [];
      body = single stay_tree by_rowid
          (col 1 0 ∷ col 1 0 ∷ lit Null ∷ col 1 2 ∷ col 1 3 ∷ col 1 4 ∷ col 1 5 ∷ col 0 1 ∷ col 0 2 ∷ []) [];
    }))
unfolding understood everything
update_state = record { is = refl; plain = (refl, refl) }

pub delete_inside : Does text.delete_inside
    (Delete 6 (record { lets = []; body = single inside_tree (by_pair 1 2) (col 1 0 ∷ []) [] }))
unfolding understood everything
delete_inside = record { is = refl; plain = (refl, refl) }

pub delete_insides : Does text.delete_insides (Delete 6
    (record { lets = []; body = single inside_tree (column_is 1 0 ∷ []) (col 1 0 ∷ []) [] }))
unfolding understood everything
delete_insides = record { is = refl; plain = (refl, refl) }
