use Rattle.lost_tape.specs.Compact.{after_decimal}
use Rattle.lost_tape.proofs.CompactParts.{decimal_of_parts}
use Rattle.lost_tape.proofs.locations.read_compact_decimal.Goals as goal

pub returns : goal.returns
unfolding after_decimal
returns c =
    decimal_of_parts c.args.text.now c.split_plain.result.0.now c.split_plain.result.1.now c.in_ok-rest.rest.now c.in_ok-utf8_of.field-0
    c.split_plain.ensures.text c.in_ok-rest.ensures c.in_ok-utf8_of.ensures c.split_plain.ensures.plain
