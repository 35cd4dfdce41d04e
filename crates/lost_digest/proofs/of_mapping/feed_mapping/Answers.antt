use Rattle.std.proofs.Common.{◌++◌}
use Rattle.lost_digest.specs.Bytes.{mapping_bytes, head_bytes, service_bytes, regions_bytes, rest_bytes}
use Rattle.lost_digest.proofs.Taking.{then_takes}
use Rattle.lost_digest.proofs.of_mapping.feed_mapping.Goals as goal

pub returns : goal.returns
unfolding mapping_bytes
returns c =
    let m = c.args.mapping.now in
    let start = c.args.hasher.now in
    then_takes start c.feed_regions.new.hasher c.feed_rest.new.hasher (head_bytes m ++ service_bytes m ++ regions_bytes m) (rest_bytes m)
    (then_takes start c.feed_service.new.hasher c.feed_regions.new.hasher (head_bytes m ++ service_bytes m) (regions_bytes m)
    (then_takes start c.feed_head.new.hasher c.feed_service.new.hasher (head_bytes m) (service_bytes m) c.feed_head.ensures c.feed_service.ensures) c.feed_regions.ensures) c.feed_rest.ensures
