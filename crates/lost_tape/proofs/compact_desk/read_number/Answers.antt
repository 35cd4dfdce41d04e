use Rattle.lost_tape.proofs.ValueLemmas.{number_member}
use Rattle.lost_tape.proofs.compact_desk.read_number.Goals as goal

pub returns-in_ok-number-in-Some : goal.returns-in_ok-number-in-Some
returns-in_ok-number-in-Some c =
    number_member c.in_ok-number-in-Some.number.now c.args.text.now c.in-Some.rest.now c.in_ok-number-in-Some.rest.now c.in-Some.ensures c.in_ok-number-in-Some.ensures.text c.in_ok-number-in-Some.ensures.plain
