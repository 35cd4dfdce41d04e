use Rattle.std.proofs.Common.{sym, subst}
use Rattle.lost_writing.specs.FoundLine.{IsPlain}
use Rattle.lost_tape.proofs.CompactParts.{plain_front}
use Rattle.lost_tape.proofs.compact.split_plain.Goals as goal

pub returns-clause-plain : goal.returns-clause-plain
returns-clause-plain c = subst IsPlain (sym c.split_at.ensures.front) (plain_front c.args.text.now c.plain_len.result c.plain_len.ensures.within c.plain_len.ensures.plain)
