use Rattle.lost_tape.specs.declared.compact_desk.Tail.{Tail}
use Rattle.lost_tape.proofs.ValueLemmas.{tail_members}
use Rattle.lost_tape.proofs.compact_desk.read_tail.Goals as goal

pub returns : goal.returns
returns c =
    let tail : Tail = record { number = c.in_ok-number.number; source = c.in_ok-source.source; source_id = c.in_ok-source_id.source_id } in
    tail_members tail c.args.text.now c.in_ok-number.rest.now c.in_ok-after.field-0.now c.in_ok-source.rest.now c.in_ok-after-2.field-0.now c.in_ok-source_id.rest.now
    c.in_ok-number.ensures
    c.in_ok-after.ensures c.in_ok-source.ensures.text c.in_ok-source.ensures.plain
    c.in_ok-after-2.ensures c.in_ok-source_id.ensures.text c.in_ok-source_id.ensures.plain
