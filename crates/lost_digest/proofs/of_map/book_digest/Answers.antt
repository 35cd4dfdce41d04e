use Rattle.std.proofs.Common.{◌∙◌, ap, sym}
use Rattle.lost_digest.specs.Digest.{with_mapping}
use Rattle.lost_digest.proofs.Summing.{sum_more}
use Rattle.lost_digest.proofs.of_map.book_digest.Goals as goal

pub loop-position-preserved : goal.loop-position-preserved
loop-position-preserved g c =
    c.add.ensures ∙ (ap (λ d. with_mapping d c.mapping.result.now) c.loop-position.invariant ∙ sym (sum_more (g.H.Holdings.book c.args.book.now).mappings c.loop-position.position c.mapping.result.now c.mapping.ensures))
