use Rattle.std.proofs.Common.{subst}
use Rattle.serde_json.specs.Data.{put}
use Rattle.lost_tape.specs.ByName.{HoldsLocation}
use Rattle.lost_tape.specs.Tapes.{data_of}
use Rattle.lost_tape.proofs.members.LocationMembers.put_all.Goals as goal

pub loop-name-init : goal.loop-name-init
loop-name-init c before all h held = (before, h, held)

pub loop-name-preserved : goal.loop-name-preserved
loop-name-preserved c before all h held =
    let now = c.loop-name.invariant before all h held in
    (put c.in-Some.name.now (data_of c.in-Some.tree) now.0, c.in-Some.ensures.value now.0 all now.1, c.put.ensures now.0 now.2)

pub returns : goal.returns
returns c before all h held =
    let now = c.loop-name.invariant before all h held in
    subst (HoldsLocation c.loop-name.self) (c.in_default.ensures.value now.0 all now.1) now.2
