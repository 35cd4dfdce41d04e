-- No region before this one contains the location.
use Rattle.std.proofs.Common.{◌≡◌, false, take}
use Rattle.std.specs.List.{list_any}
use Rattle.lost_index.proofs.entry.Entry.contains.Given as goal

abbrev pub invariant-loop-one : goal.invariant-loop-one
invariant-loop-one g l = list_any (λ region. g.P.Profile.holds region l.location) (take l.one-index l.one-items) ≡ false
