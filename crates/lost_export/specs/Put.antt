-- How the members of a mapping are put in, one after another. (Own.)
use Rattle.std.specs.Prelude.{Option, Some, None}
use Rattle.serde_json.specs.Data.{Data, Members, put}
use Rattle.lost_spec.specs.Text.{Text}

-- the members with one more, where its value is there
abbrev pub put_if : Text → Option Data → Members → Members
put_if name None members = members
put_if name (Some value) members = put name value members
