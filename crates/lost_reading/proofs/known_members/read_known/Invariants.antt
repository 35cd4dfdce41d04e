use Rattle.std.proofs.Common.{length}
use Rattle.serde_json.specs.View.{members_view}
use Rattle.lost_reading.specs.KnownMembers.{HaveSameKnown}
use Rattle.lost_reading.proofs.TurnLemmas.{HasReadMembers}
use Rattle.lost_reading.proofs.known_members.read_known.Given as goal

abbrev pub invariant-members : goal.invariant-members
invariant-members l = HasReadMembers (λ all. HaveSameKnown all (members_view l.found.entries)) l.depth l.initial.reader l.reader

abbrev pub decreases-members : goal.decreases-members
decreases-members l = length l.reader
