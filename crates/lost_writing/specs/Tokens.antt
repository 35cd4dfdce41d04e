-- The tokens of a tree, one part after another: what stands before comes last. (Own.)
use Rattle.std.specs.Prelude.{List, [], ◌∷◌, ◌++◌, Option, None, Some}
use Rattle.json.specs.Token.{Token, begin_object, end_object, key}
use Rattle.json.specs.Tree.{json_tokens}
use Rattle.serde_json.specs.Data.{Data, Members, no_members, member}
use Rattle.serde_json.specs.Written.{outline}
use Rattle.lost_spec.specs.Text.{Text}

-- one more token
unfoldable pub then_token : Token → List Token → List Token
then_token token before = before ++ token ∷ []

-- the tokens of a value
unfoldable pub then_value : Data → List Token → List Token
then_value value before = before ++ json_tokens (outline value)

-- a name, and the tokens of its value
abbrev pub then_member : Text → Data → List Token → List Token
then_member name value before = then_value value (then_token (key name) before)

-- a member, where its value is there
abbrev pub then_member_if : Text → Option Data → List Token → List Token
then_member_if name None before = before
then_member_if name (Some value) before = then_member name value before

-- members one after another, without the brackets round them
abbrev pub then_members : Members → List Token → List Token
then_members no_members before = before
then_members (member name value rest) before = then_members rest (then_member name value before)

-- values one after another, without the brackets round them
abbrev pub then_values : List Data → List Token → List Token
then_values [] before = before
then_values (value ∷ rest) before = then_values rest (then_value value before)

-- an object with one member, an object of this name, as far as the first of its members
abbrev pub then_begun : Text → List Token → List Token
then_begun name before = then_token begin_object (then_token (key name) (then_token begin_object before))

-- the ends of both
abbrev pub then_ended : List Token → List Token
then_ended before = then_token end_object (then_token end_object before)
