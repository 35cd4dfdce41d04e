use Rattle.lost_writing.proofs.NamedLemmas.{named_members-insert_entry, put_pairs-more}
use Rattle.lost_writing.proofs.writing.regions.by_name.Goals as goal

pub loop-pair-preserved : goal.loop-pair-preserved
loop-pair-preserved c =
    let more = put_pairs-more c.args.pairs.now c.loop-pair.pair-index c.pair-item.result c.loop-pair-test.true c.pair-item.is in
    let inserted = named_members-insert_entry c.loop-pair.named.entries c.as_str.result c.as_str-in-loop-pair.result in
    cc (more, inserted, c.in_ok-insert.ensures.entries)
