use Rattle.std.proofs.Common.{length}
use Rattle.serde_json.specs.Data.{Members}
use Rattle.lost_tape.specs.ByName.{HoldsRequest}
use Rattle.lost_tape.specs.Tapes.{HoldsMembers}
use Rattle.lost_tape.proofs.members.RequestMembers.put_all.Given as goal

abbrev pub invariant-loop-name : goal.invariant-loop-name
invariant-loop-name l =
    (before all : Members) → HoldsMembers l.initial.members before all → HoldsRequest l.initial.self before → (some : Members) × HoldsMembers l.members some all × HoldsRequest l.self some

abbrev pub decreases-loop-name : goal.decreases-loop-name
decreases-loop-name l = length l.members
