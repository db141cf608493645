-- the texts so far, and the fields that are left, decide
use Rattle.std.proofs.Common.{◌≡◌, ◌+◌, ◌≤◌, ◌++◌, length, map, drop}
use Rattle.std.specs.Option.{option_map}
use Rattle.hotel_http.specs.Tasks.{field_texts, value_texts}
use Rattle.hotel_http.proofs.tasks.value_texts.Given as goal

abbrev pub invariant-loop-name : goal.invariant-loop-name
invariant-loop-name l = (length l.texts ≤ 2 + l.name-index)
    × (option_map (λ later. l.texts ++ later) (field_texts (map (λ n. n.now) (drop l.name-index l.name-items)) l.form)
    ≡ value_texts l.fn.verb l.fn.path l.form)
