use Rattle.std.proofs.Common.{sym, subst}
use Rattle.serde_json.specs.Find.{as_str}
use Rattle.lost_tape.specs.Values.{IsPartBefore}
use Rattle.lost_tape.proofs.ValueLemmas.{text_part}
use Rattle.lost_tape.proofs.compact_part.StringCompactPart.read_front.Goals as goal

pub returns : goal.returns
returns c =
    subst (λ s. IsPartBefore 0 as_str c.args.text.now s c.in_ok-text.rest.now) (sym c.in_ok-owned.ensures)
    (text_part c.args.text.now c.in_ok-text.text.now c.in_ok-text.rest.now c.in_ok-text.ensures.text c.in_ok-text.ensures.plain)
