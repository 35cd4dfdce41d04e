use Rattle.lost_civic.proofs.TextLemmas.{known_at}
use Rattle.lost_civic.proofs.texts.compare_pairs.Goals as goal

pub compare_pair-requires : goal.compare_pair-requires
compare_pair-requires c =
    known_at c.args.pairs.now c.loop-pair.pair-index c.pair-item.result c.loop-pair-test.true c.pair-item.is c.requires
