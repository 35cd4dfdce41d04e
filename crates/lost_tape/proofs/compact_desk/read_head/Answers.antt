use Rattle.lost_tape.specs.declared.compact_desk.Head.{Head}
use Rattle.lost_tape.proofs.ValueLemmas.{head_members}
use Rattle.lost_tape.proofs.compact_desk.read_head.Goals as goal

pub returns : goal.returns
returns c =
    let head : Head = record { expires = c.in_ok-expires.expires; key = c.in_ok-key.key; last_updated = c.in_ok-last_updated.last_updated; service = c.in_ok-service.service } in
    head_members head c.args.text.now c.in_ok-after.field-0.now c.in_ok-expires.rest.now c.in_ok-after-2.field-0.now c.in_ok-key.rest.now
    c.in_ok-after-3.field-0.now c.in_ok-last_updated.rest.now c.in_ok-after-4.field-0.now c.in_ok-service.rest.now
    c.in_ok-after.ensures c.in_ok-expires.ensures.text c.in_ok-expires.ensures.plain
    c.in_ok-after-2.ensures c.in_ok-key.ensures.text c.in_ok-key.ensures.plain
    c.in_ok-after-3.ensures c.in_ok-last_updated.ensures.text c.in_ok-last_updated.ensures.plain
    c.in_ok-after-4.ensures c.in_ok-service.ensures.text c.in_ok-service.ensures.plain
