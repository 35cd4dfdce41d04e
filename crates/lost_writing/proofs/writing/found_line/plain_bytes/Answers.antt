use Rattle.std.proofs.Common.{rules, subst}
use Rattle.lost_writing.specs.FoundLine.{IsPlain}
use Rattle.lost_writing.proofs.PlainLemmas.{plain_to_end}
use Rattle.lost_writing.proofs.writing.found_line.plain_bytes.Goals as goal

pub returns : goal.returns
returns c =
    let bytes = c.as_bytes-bytes.result.now in (
      c.as_bytes-bytes.ensures.value,
      subst IsPlain c.as_bytes-bytes.ensures.value (plain_to_end bytes c.plain_len.result c.plain_len.ensures.within (search rules) c.plain_len.ensures.plain),
    )
