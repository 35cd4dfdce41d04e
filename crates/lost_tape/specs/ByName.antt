-- The members of an object that were found by their names. (Own.)
use Rattle.std.specs.Prelude.{◌≡◌, List, Option, option_map, unwrap_or, codes}
use Rattle.json.specs.Token.{Token}
use Rattle.serde_json.specs.Data.{Data, Members}
use Rattle.lost_spec.specs.Text.{Text}
use Rattle.lost_reading.specs.Members.{the_member, optional_value}
use Rattle.lost_tape.specs.Tapes.{data_of}
use Rattle.lost_tape.specs.declared.members.RequestMembers.{RequestMembers}
use Rattle.lost_tape.specs.declared.members.LocationMembers.{LocationMembers}

-- what was found is the member of this name, or there is none
abbrev pub IsMember : Text → Option (List Token) → Members → Type 0
IsMember name found members = option_map data_of found ≡ the_member name members

-- what a member of a kind is, with what stands for it where it is absent
abbrev pub or_default : {Thing : Type 0} → (Data → Option Thing) → Thing → Option Data → Option Thing
or_default kind default member = option_map (λ found. unwrap_or found default) (optional_value kind member)

-- what was found are the members of a request
abbrev pub HoldsRequest : RequestMembers → Members → Type 0
HoldsRequest found members =
    IsMember (codes "service") found.service members × IsMember (codes "location") found.location members
    × IsMember (codes "validateLocation") found.validate members
    × IsMember (codes "serviceBoundary") found.boundary members
    × IsMember (codes "path") found.path members

-- what was found are the members of a location
abbrev pub HoldsLocation : LocationMembers → Members → Type 0
HoldsLocation found members =
    IsMember (codes "id") found.id members × IsMember (codes "profile") found.profile members × IsMember (codes "srsName") found.srs_name members
    × IsMember (codes "pos") found.pos members
    × IsMember (codes "address") found.address members × IsMember (codes "token") found.token members
