use Rattle.std.proofs.Common.{length}
use Rattle.lost_reading.proofs.locations.+repeats_profile.Given as goal

abbrev pub decreases-repeats_profile : goal.decreases-repeats_profile
decreases-repeats_profile l = length l.locations.now
