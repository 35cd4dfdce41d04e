use Rattle.std.proofs.Common.{rules}
use Rattle.lost_tape.proofs.CompactParts.{cut_front}
use Rattle.lost_tape.proofs.compact.after.Goals as goal

pub returns-then-eq : goal.returns-then-eq
returns-then-eq c = cut_front c.args.text.now c.args.front.now c.in_ok-begins.begins.now c.in_ok-begins.rest.now (search rules) (search rules) (search rules)
