-- The members of an object, one after another.
use Rattle.std.proofs.Common.{◌≡◌, ℕ, List, [], ◌∷◌, Option, Some, None, map, option_map, refl, sym, ap, ◌∙◌}
use Rattle.std.specs.Prelude.{IfSome, MatchOption}
use Rattle.json.specs.Token.{Token}
use Rattle.json.specs.Json as json
use Rattle.json.specs.Json.{Json}
use Rattle.json.specs.Find.{BeginsWith, InMembers, NextMember}
use Rattle.serde_json.specs.Data.{Data, null, boolean, number, string, array, object, Members, no_members, put}
use Rattle.serde_json.specs.Find.{as_str, as_object}
use Rattle.serde_json.specs.Read.{of_json, of_members}
use Rattle.lost_spec.specs.Text.{Text}
use Rattle.lost_spec.specs.Civic.{Pairs}
use Rattle.lost_reading.specs.Members.{pairs_of}
use Rattle.lost_writing.proofs.NamedLemmas.{Entry}
use Rattle.lost_writing.specs.Named.{named_members}
use Rattle.lost_tape.specs.Tapes.{tree_at, data_of, IsTree, HoldsMembers}
use Rattle.lost_tape.proofs.TreeLemmas.{held, tree_at-from, data_of-from, IsTree-from}
use Rattle.lost_tape.proofs.PartLemmas.{went, object_of}

-- ---- the members that tokens begin with

pub members_held : (ts rest : List Token) → IsTree ts → ((j : Json) → BeginsWith ts j → (ms : json.Members) × (j ≡ json.object ms) × InMembers rest ms)
    → (all : Members) × (as_object (data_of ts) ≡ Some all) × HoldsMembers rest no_members all
members_held ts rest h given =
    let x = held ts h in
    let a = given x.0 x.2 in
    let o = object_of a.0 x.1 (sym (ap of_json a.1) ∙ x.3) in
    (o.0, ap as_object (data_of-from ts x.1 x.4 ∙ sym o.2), (a.0, a.2, o.1))

abbrev pub NextNamed : Members → Members → Option (List ℕ × List Token) → List Token → Type 0
NextNamed before all r new = MatchOption r (before ≡ all) (λ m. HoldsMembers new (put m.0 (data_of m.1) before) all)

none_left : (ms : json.Members) (before all : Members) → of_members ms before ≡ Some all → ms ≡ json.no_members → before ≡ all
none_left ms before all e none = let f : of_members json.no_members before ≡ Some all = sym (ap (λ m. of_members m before) none) ∙ e in cc

pub named_held : (old new : List Token) (r : Option (List ℕ × List Token)) (before all : Members) → HoldsMembers old before all → NextMember old r new
    → NextNamed before all r new × IfSome r (λ m. IsTree m.1)
named_held old new None before all h next = (none_left h.0 before all h.2 (next h.0 h.1), tt)
named_held old new (Some m) before all h next =
    let n = next h.0 h.1 in
    let e = sym (ap (λ ms. of_members ms before) n.2) ∙ h.2 in
    let d = went (λ d. of_members n.1 (put m.0 d before)) (of_json n.0) all e in
    let at : tree_at m.1 ≡ Some d.0 = tree_at-from m.1 n.0 d.0 n.3 d.1 in
    ((n.1, n.4, ap (λ t. of_members n.1 (put m.0 t before)) (data_of-from m.1 d.0 at) ∙ d.2), IsTree-from m.1 d.0 at)

-- ---- texts by their names

-- what has a text is that text
pub is_text : (d : Data) (s : Text) → as_str d ≡ Some s → d ≡ string s
is_text null s e = absurd (cc)
is_text (boolean b) s e = absurd (cc)
is_text (number n) s e = absurd (cc)
is_text (string t) s e = let same : t ≡ s = cc in ap string same
is_text (array ds) s e = absurd (cc)
is_text (object ms) s e = absurd (cc)

abbrev pub seen_entry : Entry → Text × Text
seen_entry entry = (entry.0.now, entry.1.now)

abbrev pub seen_entries : List Entry → Pairs
seen_entries entries = map seen_entry entries

-- members that are texts are pairs
pub pairs_of-named_members : (entries : List Entry) → pairs_of (named_members entries) ≡ Some (seen_entries entries)
pairs_of-named_members [] = refl
pairs_of-named_members (entry ∷ entries) = ap (λ o. option_map (λ pairs. seen_entry entry ∷ pairs) o) (pairs_of-named_members entries)
