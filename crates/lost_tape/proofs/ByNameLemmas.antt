-- The members that a walk over an object finds by their names.
use Rattle.std.proofs.Common.{◌≡◌, List, true, false, true≢false, Option, option_map, option_and_then, sym, ap, ◌∙◌}
use Rattle.std.specs.Str.{bytes_eq}
use Rattle.std.proofs.lemmas.Slice.Eq.{bytes_eq-Decides}
use Rattle.json.specs.Token.{Token}
use Rattle.serde_json.specs.Data.{Data, Members, put}
use Rattle.serde_json.specs.Find.{get_member}
use Rattle.serde_json.proofs.Views.{get_member-put, get_member-put_other}
use Rattle.lost_spec.specs.Text.{Text}
use Rattle.lost_reading.specs.Members.{unless_null}
use Rattle.lost_tape.specs.Tapes.{data_of}
use Rattle.lost_tape.specs.ByName.{IsMember}

-- the member of this name that was put last
pub is_placed : (wanted name : Text) (found : Option (List Token)) (d : Data) (before : Members) → bytes_eq wanted name ≡ true → option_map data_of found ≡ unless_null d
    → IsMember wanted found (put name d before)
is_placed wanted name found d before same is =
    let e : wanted ≡ name = (bytes_eq-Decides wanted name).0 same in
    is ∙ sym (ap (option_and_then unless_null) (ap (λ n. get_member n (put name d before)) e ∙ get_member-put name d before))

-- a member of another name stays what it was
pub stays : (wanted name : Text) (found : Option (List Token)) (d : Data) (before : Members) → bytes_eq wanted name ≡ false → IsMember wanted found before
    → IsMember wanted found (put name d before)
stays wanted name found d before other is =
    is ∙ sym (ap (option_and_then unless_null) (get_member-put_other wanted name d before (λ e. true≢false (sym ((bytes_eq-Decides wanted name).1 e) ∙ other))))

-- a name that is this one is not that one
pub not_that : (wanted this name : Text) → bytes_eq this name ≡ true → bytes_eq wanted this ≡ false → bytes_eq wanted name ≡ false
not_that wanted this name same other = let e = (bytes_eq-Decides this name).0 same in ap (bytes_eq wanted) (sym e) ∙ other
