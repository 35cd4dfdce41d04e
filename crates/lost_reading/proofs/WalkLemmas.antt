-- Values that are walked over.
use Rattle.std.proofs.Common.{◌≡◌, List, Option, Some, None, ap, ◌∙◌}
use Rattle.json.specs.Token.{Token}
use Rattle.json.specs.Json as json
use Rattle.json.specs.Json.{parse_map}
use Rattle.json.proofs.Grammar.{left, left_some, left_none, left-parse_map}
use Rattle.serde_json.specs.Data.{Data, array, object, no_members}
use Rattle.serde_json.specs.Read.{of_json, of_items, of_members, converted}
use Rattle.lost_reading.specs.KnownMembers.{passed}
use Rattle.lost_reading.proofs.TurnLemmas.{converted-array, converted-object}

abbrev pub passed_members : Option (json.Members × List Token) → Option (List Token)
passed_members o = passed (λ ms. of_members ms no_members) o

pub passed-array : (o : Option (json.Items × List Token)) → passed of_json (parse_map json.array o) ≡ passed of_items o
passed-array o = ap left (converted-array o) ∙ left-parse_map array (converted of_items o)

pub passed-object : (o : Option (json.Members × List Token)) → passed of_json (parse_map json.object o) ≡ passed_members o
passed-object o = ap left (converted-object o) ∙ left-parse_map object (converted (λ ms. of_members ms no_members) o)

-- what was read is there, whatever it is
pub some_passed : (o : Option (json.Json × List Token)) (r : List Token) → passed of_json o ≡ Some r → (d : Data) × (converted of_json o ≡ Some (d, r))
some_passed o r e = left_some (converted of_json o) r e

pub none_passed : (o : Option (json.Json × List Token)) → passed of_json o ≡ None → converted of_json o ≡ None
none_passed o e = left_none (converted of_json o) e
