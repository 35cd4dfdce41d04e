-- The keys so far.
use Rattle.std.proofs.Common.{◌≡◌, take}
use Rattle.lost_profile.proofs.profile.Profile.cover.Given as goal

abbrev pub invariant-loop-position : goal.invariant-loop-position
invariant-loop-position g l = l.keys.items ≡ take l.position (g.Self.Profile.cover_of l.region)
