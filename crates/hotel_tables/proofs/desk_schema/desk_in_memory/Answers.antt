use Rattle.hotel_tables.proofs.MemoryDesk.{memory_has_desk}
use Rattle.hotel_tables.proofs.desk_schema.desk_in_memory.Goals as goal

pub returns-in-Ok-make_desk : goal.returns-in-Ok-make_desk
returns-in-Ok-make_desk c = record {
  ok =
      memory_has_desk c.in-Ok.conn c.make_desk.new.conn c.in-Ok.ensures.empty
      c.make_desk.ensures.crash c.in-Ok-make_desk.ensures.books;
}
