-- The regions so far are kept, and are regions.
use Rattle.std.proofs.Common.{◌≡◌, All}
use Rattle.lost_index.proofs.entry.Entry.new.Given as goal

abbrev pub invariant-loop-region : goal.invariant-loop-region
invariant-loop-region g l = (l.kept.items ≡ l.yielded) × All g.P.Profile.is_region l.kept.items
