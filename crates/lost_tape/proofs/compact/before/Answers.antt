use Rattle.std.proofs.Common.{rules}
use Rattle.lost_tape.proofs.CompactParts.{cut_end}
use Rattle.lost_tape.proofs.compact.before.Goals as goal

pub returns-then-eq : goal.returns-then-eq
returns-then-eq c = cut_end c.args.text.now c.split_at.result.0.now c.split_at.result.1.now c.args.end.now c.in_ok-at.at (search rules) (search rules) (search rules)
