use Rattle.std.proofs.Common.{ap, sym, subst}
use Rattle.std.specs.Prelude.{unwrap_or}
use Rattle.serde_json.specs.Data.{no_members}
use Rattle.lost_tape.specs.ByName.{HoldsLocation}
use Rattle.lost_tape.proofs.members.LocationMembers.read.Goals as goal

pub returns : goal.returns
returns c held =
    let members = c.in_ok-members.ensures in
    subst (HoldsLocation c.put_all.new.self) (ap (λ found. unwrap_or found no_members) (sym members.1)) (c.put_all.ensures no_members members.0 members.2 held)
