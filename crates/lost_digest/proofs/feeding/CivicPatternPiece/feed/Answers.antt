use Rattle.std.proofs.Common.{subst, sym}
use Rattle.lost_civic.specs.Pairs.{seen_pair}
use Rattle.lost_digest.specs.Bytes.{list_bytes, pair_bytes, pattern_bytes}
use Rattle.lost_digest.specs.Digest.{Takes}
use Rattle.lost_digest.proofs.Taking.{list_bytes_map}
use Rattle.lost_digest.proofs.feeding.CivicPatternPiece.feed.Goals as goal

pub returns : goal.returns
returns c =
    subst (λ pairs. Takes c.args.hasher.now c.feed_list.new.hasher (pattern_bytes pairs)) c.pairs.ensures.pairs
    (subst (Takes c.args.hasher.now c.feed_list.new.hasher) (sym (list_bytes_map (λ pair. pair_bytes pair.0 pair.1) seen_pair c.pairs.result.now)) c.feed_list.ensures)
