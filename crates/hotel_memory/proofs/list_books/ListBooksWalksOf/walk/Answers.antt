use Rattle.std.proofs.Common.{refl, ap, sym, ◌∙◌, rules, inl}
use Rattle.hotel_books.proofs.Names.{Hands, failure_of}
use Rattle.hotel_books.proofs.OfCode.Walking.{not_store}
use Rattle.hotel_memory.proofs.list_books.ListBooksWalksOf.walk.Goals as goal

pub returns : goal.returns
returns g c =
    let rows = g.L.Listed.rows_on c.args.list.now c.args.self.now.rows in
    let hands : Hands g.S.Sink.after g.S.Sink.after_stop rows c.args.sink.now c.walk_tables-end.new.sink
    c.ended.result = search rules in
    record {
      hands = (rows, hands, λ _. refl);
      looks = record {
        leaves = record {
          since = record {
            was_clean = search rules;
            was_honest = search rules;
            counted = search rules;
            disk = search rules;
          };
          counted = search rules;
          vouched = search rules;
          stays = λ _ _. inl tt;
        };
        rose = search rules;
        kept = search rules;
        cause = λ honest failed. not_store _ c.walk_tables-end.ensures.no_store
            (ap failure_of (sym c.ended.ensures.same) ∙ failed);
        stop = search rules;
        sure = search rules;
      };
    }
