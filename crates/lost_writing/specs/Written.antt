-- What the writer's steps write. (Own.)
use Rattle.std.specs.Prelude.{List, [], ◌∷◌, Option, None, Some, codes}
use Rattle.serde_json.specs.Data.{Data, string, object, no_members, member}
use Rattle.lost_spec.specs.Text.{Text}
use Rattle.lost_writing.specs.Replies.{list_data}

-- a list of things, each written in one way; nothing where there are none
abbrev pub list_if_any : {Thing : Type 0} → (Thing → Data) → List Thing → Option Data
list_if_any written [] = None
list_if_any written (thing ∷ things) = Some (list_data written (thing ∷ things))

-- a key and its source (RFC 5222, section 5.6)
abbrev pub key_data : Text → Text → Data
key_data key source = object (member (codes "key") (string key) (member (codes "source") (string source) no_members))
