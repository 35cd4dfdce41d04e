use Rattle.std.proofs.Common.{◌≡◌, take}
use Rattle.serde_json.specs.Data.{no_members}
use Rattle.serde_json.specs.View.{members_view}
use Rattle.lost_civic.specs.Pairs.{seen_pairs}
use Rattle.lost_export.specs.Export.{put_pairs}
use Rattle.lost_export.proofs.regions.pair_members.Given as goal

abbrev pub invariant-loop-pair : goal.invariant-loop-pair
invariant-loop-pair l = members_view l.members.entries ≡ put_pairs no_members (seen_pairs (take l.pair-index l.pairs))
