use Rattle.std.proofs.Common.{◌≡◌, Some, subst}
use Rattle.serde_json.specs.Data.{Members, no_members}
use Rattle.serde_json.specs.Find.{as_object}
use Rattle.lost_tape.specs.Tapes.{data_of, HoldsMembers}
use Rattle.lost_tape.proofs.MemberLemmas.{members_held}
use Rattle.lost_tape.proofs.tree.Tree.named.Goals as goal

pub invariant_of-result : goal.invariant_of-result
invariant_of-result c = let held = members_held _ c.in_ok-members.members c.self.invariant c.in_ok-members.ensures in (no_members, held.0, held.2)

pub returns : goal.returns
returns c =
    subst (λ ts. (all : Members) × (as_object (data_of ts) ≡ Some all) × HoldsMembers c.in_ok-members.members no_members all) c.self.view_is
    (members_held _ c.in_ok-members.members c.self.invariant c.in_ok-members.ensures)
