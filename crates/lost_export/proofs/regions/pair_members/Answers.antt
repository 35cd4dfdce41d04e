use Rattle.lost_writing.proofs.NamedLemmas.{put_pairs-more}
use Rattle.lost_export.proofs.regions.pair_members.Goals as goal

pub loop-pair-preserved : goal.loop-pair-preserved
loop-pair-preserved c =
    let more = put_pairs-more c.args.pairs.now c.loop-pair.pair-index c.pair-item.result c.loop-pair-test.true c.pair-item.is in
    cc (more, c.loop-pair.invariant, c.in_ok-put_text.ensures, c.as_str.ensures.value, c.as_str-in-loop-pair.ensures.value)
