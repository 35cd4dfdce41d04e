use Rattle.lost_tape.specs.Compact.{before_id, after_service}
use Rattle.lost_tape.proofs.CompactParts.{line_of_parts}
use Rattle.lost_tape.proofs.compact.read_parts.Goals as goal

pub returns : goal.returns
unfolding before_id after_service
returns c = record {
  written = line_of_parts c.args.line.now c.in_ok-rest.rest.now c.split_plain.result.0.now c.split_plain.result.1.now c.in_ok-content.rest.now c.in_ok-service.service.now c.in_ok-content.content
      c.in_ok-rest.ensures c.split_plain.ensures.text c.in_ok-content.ensures.begins c.in_ok-service.ensures;
  plain_id = c.split_plain.ensures.plain;
  sound = c.in_ok-content.ensures.sound;
}
