-- The names of each object that is read ascend.
use Rattle.std.proofs.Common.{◌≡◌, List, [], ◌∷◌, Option, None, Some, option_map, option_and_then, Ordering, Less, Equal, Greater, nat_cmp, refl, ap, ◌∙◌, subst}
use Rattle.std.specs.Prelude.{⊤}
use Rattle.std.proofs.lemmas.Cmp.{nat_list_cmp_total}
use Rattle.std.specs.Cmp.Lexicographic.{slice_cmp}
use Rattle.std.specs.List.{AllByRecursion}
use Rattle.std.specs.Ordering.{match_ordering, ordering_reverse}
use Rattle.json.specs.Json as json
use Rattle.json.specs.Lex.{tokens}
use Rattle.serde_json.specs.Data.{Num, Data, null, boolean, number, string, array, object, Items, no_items, item, Members, no_members, member, put}
use Rattle.serde_json.specs.Find.{get_member}
use Rattle.serde_json.specs.Read.{number_of, of_json, of_items, of_members, read, max_depth}
use Rattle.lost_spec.specs.Text.{Text}

abbrev pub names_in : Members → List Text
names_in no_members = []
names_in (member name value rest) = name ∷ names_in rest

-- a text comes before each of these
abbrev pub IsBelow : Text → List Text → Type 0
IsBelow name names = AllByRecursion (λ other. slice_cmp nat_cmp name other ≡ Less) names

-- in each object of the tree, each name comes before the next
abbrev mutual
  pub IsOrdered : Data → Type 0
  IsOrdered null = ⊤
  IsOrdered (boolean b) = ⊤
  IsOrdered (number n) = ⊤
  IsOrdered (string s) = ⊤
  IsOrdered (array items) = ItemsAreOrdered items
  IsOrdered (object members) = MembersAreOrdered members

  pub ItemsAreOrdered : Items → Type 0
  ItemsAreOrdered no_items = ⊤
  ItemsAreOrdered (item value rest) = IsOrdered value × ItemsAreOrdered rest

  pub MembersAreOrdered : Members → Type 0
  MembersAreOrdered no_members = ⊤
  MembersAreOrdered (member name value rest) = IsOrdered value × IsBelow name (names_in rest) × MembersAreOrdered rest

-- ---- a member is put in

below_by : (order : Ordering) (first name other : Text) (value more : Data) (rest : Members) → slice_cmp nat_cmp first name ≡ Less → IsBelow first (other ∷ names_in rest) → IsBelow first (names_in (put name value rest))
    → IsBelow first (names_in (match_ordering order (member name value (member other more rest)) (member other value rest) (member other more (put name value rest))))
below_by Less first name other value more rest is all later = (is, all)
below_by Equal first name other value more rest is all later = all
below_by Greater first name other value more rest is all later = (all.0, later)

below_put : (first name : Text) (value : Data) (before : Members) → slice_cmp nat_cmp first name ≡ Less → IsBelow first (names_in before) → IsBelow first (names_in (put name value before))
below_put first name value no_members is all = (is, tt)
below_put first name value (member other more rest) is all = below_by (slice_cmp nat_cmp name other) first name other value more rest is all (below_put first name value rest is all.1)

below_all : (name other : Text) (names : List Text) → slice_cmp nat_cmp name other ≡ Less → IsBelow other names → IsBelow name names
below_all name other [] is all = tt
below_all name other (more ∷ names) is all = (nat_list_cmp_total.trans name other more is all.0, below_all name other names is all.1)

ordered_by : (order : Ordering) (name other : Text) (value more : Data) (rest : Members) → slice_cmp nat_cmp name other ≡ order → IsOrdered value → MembersAreOrdered (member other more rest) → MembersAreOrdered (put name value rest)
    → MembersAreOrdered (match_ordering order (member name value (member other more rest)) (member other value rest) (member other more (put name value rest)))
ordered_by Less name other value more rest is one all later = (one, (is, below_all name other (names_in rest) is all.1), all)
ordered_by Equal name other value more rest is one all later = (one, all.1, all.2)
ordered_by Greater name other value more rest is one all later =
    let below : slice_cmp nat_cmp other name ≡ Less = nat_list_cmp_total.antisymm other name ∙ ap ordering_reverse is in
    (all.0, below_put other name value rest below all.1, later)

ordered_put : (name : Text) (value : Data) (before : Members) → IsOrdered value → MembersAreOrdered before → MembersAreOrdered (put name value before)
ordered_put name value no_members one all = (one, tt, tt)
ordered_put name value (member other more rest) one all = ordered_by (slice_cmp nat_cmp name other) name other value more rest refl one all (ordered_put name value rest one all.2)

-- ---- what is read

number_ordered : (found : Option Num) (value : Data) → option_map number found ≡ Some value → IsOrdered value
number_ordered None value is = absurd (cc)
number_ordered (Some n) value is =
    let same : number n ≡ value = cc in
    subst IsOrdered same tt

array_ordered : (found : Option Items) (value : Data) → ((items : Items) → found ≡ Some items → ItemsAreOrdered items) → option_map array found ≡ Some value → IsOrdered value
array_ordered None value each is = absurd (cc)
array_ordered (Some items) value each is =
    let same : array items ≡ value = cc in
    subst IsOrdered same (each items refl)

object_ordered : (found : Option Members) (value : Data) → ((members : Members) → found ≡ Some members → MembersAreOrdered members) → option_map object found ≡ Some value → IsOrdered value
object_ordered None value each is = absurd (cc)
object_ordered (Some members) value each is =
    let same : object members ≡ value = cc in
    subst IsOrdered same (each members refl)

items_ordered : (first : Option Data) (others : Option Items) (items : Items) → ((value : Data) → first ≡ Some value → IsOrdered value) → ((rest : Items) → others ≡ Some rest → ItemsAreOrdered rest)
    → option_and_then (λ value. option_map (item value) others) first ≡ Some items → ItemsAreOrdered items
items_ordered None others items one all is = absurd (cc)
items_ordered (Some value) None items one all is = absurd (cc)
items_ordered (Some value) (Some rest) items one all is =
    let same : item value rest ≡ items = cc in
    subst ItemsAreOrdered same (one value refl, all rest refl)

members_ordered : (first : Option Data) (others : Data → Option Members) (members : Members) → ((value : Data) → first ≡ Some value → others value ≡ Some members → MembersAreOrdered members)
    → option_and_then others first ≡ Some members → MembersAreOrdered members
members_ordered None others members all is = absurd (cc)
members_ordered (Some value) others members all is = all value refl is

mutual
  ordered_json : (j : json.Json) (value : Data) → of_json j ≡ Some value → IsOrdered value
  ordered_json json.null value is =
      let same : null ≡ value = cc in
      subst IsOrdered same tt
  ordered_json (json.boolean b) value is =
      let same : boolean b ≡ value = cc in
      subst IsOrdered same tt
  ordered_json (json.number s) value is = number_ordered (number_of s) value is
  ordered_json (json.string s) value is =
      let same : string s ≡ value = cc in
      subst IsOrdered same tt
  ordered_json (json.array js) value is = array_ordered (of_items js) value (λ items found. ordered_items js items found) is
  ordered_json (json.object ms) value is = object_ordered (of_members ms no_members) value (λ members found. ordered_members ms no_members members tt found) is

  ordered_items : (js : json.Items) (items : Items) → of_items js ≡ Some items → ItemsAreOrdered items
  ordered_items json.no_items items is =
      let same : no_items ≡ items = cc in
      subst ItemsAreOrdered same tt
  ordered_items (json.item j js) items is = items_ordered (of_json j) (of_items js) items (λ value found. ordered_json j value found) (λ rest found. ordered_items js rest found) is

  ordered_members : (ms : json.Members) (before members : Members) → MembersAreOrdered before → of_members ms before ≡ Some members → MembersAreOrdered members
  ordered_members json.no_members before members all is =
      let same : before ≡ members = cc in
      subst MembersAreOrdered same all
  ordered_members (json.member name j ms) before members all is =
      members_ordered (of_json j) (λ value. of_members ms (put name value before)) members
      (λ value found later. ordered_members ms (put name value before) members (ordered_put name value before (ordered_json j value found) all) later) is

of_some : (found : Option json.Json) (value : Data) → option_and_then of_json found ≡ Some value → IsOrdered value
of_some None value is = absurd (cc)
of_some (Some j) value is = ordered_json j value is

pub read_ordered : (text : Text) (value : Data) → read text ≡ Some value → IsOrdered value
read_ordered text value is = of_some (option_and_then (λ p. json.if_last p.0 p.1) (json.value max_depth (tokens text))) value is

-- ---- a member that is found

ordered_found : (order : Ordering) (there value : Data) (rest : Option Data) → IsOrdered there → ((found : Data) → rest ≡ Some found → IsOrdered found) → match_ordering order rest (Some there) rest ≡ Some value → IsOrdered value
ordered_found Less there value rest one all is = all value is
ordered_found Equal there value rest one all is =
    let same : there ≡ value = cc in
    subst IsOrdered same one
ordered_found Greater there value rest one all is = all value is

pub found_ordered : (name : Text) (members : Members) (value : Data) → MembersAreOrdered members → get_member name members ≡ Some value → IsOrdered value
found_ordered name no_members value all is = absurd (cc)
found_ordered name (member other there rest) value all is =
    ordered_found (slice_cmp nat_cmp name other) there value (get_member name rest) all.0 (λ found later. found_ordered name rest found all.2 later) is
