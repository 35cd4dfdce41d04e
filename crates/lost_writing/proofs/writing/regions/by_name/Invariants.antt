use Rattle.std.proofs.Common.{◌≡◌, take}
use Rattle.serde_json.specs.Data.{no_members}
use Rattle.lost_civic.specs.Pairs.{seen_pairs}
use Rattle.lost_writing.specs.Replies.{put_pairs}
use Rattle.lost_writing.specs.Named.{named_members}
use Rattle.lost_writing.proofs.writing.regions.by_name.Given as goal

abbrev pub invariant-loop-pair : goal.invariant-loop-pair
invariant-loop-pair l = named_members l.named.entries ≡ put_pairs no_members (seen_pairs (take l.pair-index l.pairs))
