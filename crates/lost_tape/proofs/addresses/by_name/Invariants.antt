use Rattle.std.proofs.Common.{length}
use Rattle.serde_json.specs.Data.{Members, no_members}
use Rattle.lost_writing.specs.Named.{named_members}
use Rattle.lost_tape.specs.Tapes.{HoldsMembers}
use Rattle.lost_tape.proofs.addresses.by_name.Given as goal

abbrev pub invariant-loop-name : goal.invariant-loop-name
invariant-loop-name l =
    (all : Members) → HoldsMembers l.initial.members no_members all → HoldsMembers l.members (named_members l.named.entries) all

abbrev pub decreases-loop-name : goal.decreases-loop-name
decreases-loop-name l = length l.members
