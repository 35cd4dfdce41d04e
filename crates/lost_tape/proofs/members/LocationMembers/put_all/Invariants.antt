use Rattle.std.proofs.Common.{length}
use Rattle.serde_json.specs.Data.{Members}
use Rattle.lost_tape.specs.ByName.{HoldsLocation}
use Rattle.lost_tape.specs.Tapes.{HoldsMembers}
use Rattle.lost_tape.proofs.members.LocationMembers.put_all.Given as goal

abbrev pub invariant-loop-name : goal.invariant-loop-name
invariant-loop-name l =
    (before all : Members) → HoldsMembers l.initial.members before all → HoldsLocation l.initial.self before → (some : Members) × HoldsMembers l.members some all × HoldsLocation l.self some

abbrev pub decreases-loop-name : goal.decreases-loop-name
decreases-loop-name l = length l.members
