-- Names tell elements apart, and are those that the table knows.
use Rattle.std.proofs.Common.{◌≡◌, ◌↔◌, ℕ, ◌+◌, ◌<◌, ◌≤◌, Bool, true, false, Option, Some, find, take, get_or, slice_index_or, refl, sym, ◌∙◌, ap}
use Rattle.std.proofs.lemmas.Bool.{false≢true}
use Rattle.std.proofs.lemmas.Slice.Eq.{bytes_eq-Decides}
use Rattle.std.proofs.lemmas.List.{take_all}
use Rattle.std.proofs.lemmas.List.Folds.{list_any_more}
use Rattle.std.specs.List.{list_any}
use Rattle.lost_spec.specs.Text.{Text, same_text}
use Rattle.lost_spec.specs.Civic.{is_known}
use Rattle.lost_civic.specs.declared.elements.Element.{Element}
use Rattle.lost_civic.specs.declared.elements.Element.TheVariants.{Country, A1, A2, A3, A4, A5, A6, Prm, Prd, Rd, Sts, Pod, Pom, RdSec, RdBr, RdSubBr, Hno, Hns, Lmk, Loc, Flr, Nam, Pc, Bld, UnitNumber, Room, Seat, Plc, Pcn, PoBox, AddCode}
use Rattle.lost_civic.specs.Element.{element_index, element_name, all_elements}

-- the element of a name
abbrev pub element_named : Text → Option Element
element_named name = find (λ element. same_text name (element_name element)) all_elements

pub element_named-element_name : (element : Element) → element_named (element_name element) ≡ Some element
unfolding element_name
element_named-element_name Country = refl
element_named-element_name A1 = refl
element_named-element_name A2 = refl
element_named-element_name A3 = refl
element_named-element_name A4 = refl
element_named-element_name A5 = refl
element_named-element_name A6 = refl
element_named-element_name Prm = refl
element_named-element_name Prd = refl
element_named-element_name Rd = refl
element_named-element_name Sts = refl
element_named-element_name Pod = refl
element_named-element_name Pom = refl
element_named-element_name RdSec = refl
element_named-element_name RdBr = refl
element_named-element_name RdSubBr = refl
element_named-element_name Hno = refl
element_named-element_name Hns = refl
element_named-element_name Lmk = refl
element_named-element_name Loc = refl
element_named-element_name Flr = refl
element_named-element_name Nam = refl
element_named-element_name Pc = refl
element_named-element_name Bld = refl
element_named-element_name UnitNumber = refl
element_named-element_name Room = refl
element_named-element_name Seat = refl
element_named-element_name Plc = refl
element_named-element_name Pcn = refl
element_named-element_name PoBox = refl
element_named-element_name AddCode = refl

-- an element stands at its place
pub all_elements-element_index : (element other : Element) → get_or all_elements (element_index element) other ≡ element
all_elements-element_index Country other = refl
all_elements-element_index A1 other = refl
all_elements-element_index A2 other = refl
all_elements-element_index A3 other = refl
all_elements-element_index A4 other = refl
all_elements-element_index A5 other = refl
all_elements-element_index A6 other = refl
all_elements-element_index Prm other = refl
all_elements-element_index Prd other = refl
all_elements-element_index Rd other = refl
all_elements-element_index Sts other = refl
all_elements-element_index Pod other = refl
all_elements-element_index Pom other = refl
all_elements-element_index RdSec other = refl
all_elements-element_index RdBr other = refl
all_elements-element_index RdSubBr other = refl
all_elements-element_index Hno other = refl
all_elements-element_index Hns other = refl
all_elements-element_index Lmk other = refl
all_elements-element_index Loc other = refl
all_elements-element_index Flr other = refl
all_elements-element_index Nam other = refl
all_elements-element_index Pc other = refl
all_elements-element_index Bld other = refl
all_elements-element_index UnitNumber other = refl
all_elements-element_index Room other = refl
all_elements-element_index Seat other = refl
all_elements-element_index Plc other = refl
all_elements-element_index Pcn other = refl
all_elements-element_index PoBox other = refl
all_elements-element_index AddCode other = refl

false-from_not_true : (b : Bool) → (b ≡ true → ⊥) → b ≡ false
false-from_not_true true h = absurd (h refl)
false-from_not_true false h = refl

some_same : {X : Type 0} {a b : X} → Some a ≡ Some b → a ≡ b
some_same e = cc

-- two elements with one name are the same
pub same_element : (a b : Element) → element_name a ≡ element_name b → Some a ≡ Some b
same_element a b e = sym (element_named-element_name a) ∙ (ap element_named e ∙ element_named-element_name b)

-- two elements that differ have different names
pub names_differ : (a b : Element) → (a ≡ b → ⊥) → same_text (element_name b) (element_name a) ≡ false
names_differ a b differ =
    false-from_not_true (same_text (element_name b) (element_name a)) (λ same. differ (some_same (sym (same_element b a ((bytes_eq-Decides (element_name b) (element_name a)).0 same)))))

-- the name that was asked for is the element's exactly where the element was found
pub named_by : (name : Text) (found : Element) → same_text name (element_name found) ≡ true → (element : Element) → (Some found ≡ Some element) ↔ (name ≡ element_name element)
named_by name found e element =
    let is_name : name ≡ element_name found = (bytes_eq-Decides name (element_name found)).0 e in
    (λ (same : Some found ≡ Some element). cc, λ (named : name ≡ element_name element). same_element found element (sym is_name ∙ named))

-- no element before a place has the name, nor has the one at it
pub none_named_more : (name : Text) (i : ℕ) → i < 31 → list_any (λ element. same_text name (element_name element)) (take i all_elements) ≡ false → same_text name (element_name (slice_index_or all_elements i Country)) ≡ false → list_any (λ element. same_text name (element_name element)) (take (i + 1) all_elements) ≡ false
none_named_more name i within before here =
    let is_named : Element → Bool = λ element. same_text name (element_name element) in
    rw (list_any_more is_named all_elements i Country within) (rw before here)

-- a name is known where it is that of an element
pub is_known-elements : (name : Text) → is_known name ≡ list_any (λ element. same_text name (element_name element)) all_elements
unfolding element_name
is_known-elements name = refl

-- the name of an element is found among those of the table
named_itself : (element : Element) → list_any (λ other. same_text (element_name element) (element_name other)) all_elements ≡ true
unfolding element_name
named_itself Country = refl
named_itself A1 = refl
named_itself A2 = refl
named_itself A3 = refl
named_itself A4 = refl
named_itself A5 = refl
named_itself A6 = refl
named_itself Prm = refl
named_itself Prd = refl
named_itself Rd = refl
named_itself Sts = refl
named_itself Pod = refl
named_itself Pom = refl
named_itself RdSec = refl
named_itself RdBr = refl
named_itself RdSubBr = refl
named_itself Hno = refl
named_itself Hns = refl
named_itself Lmk = refl
named_itself Loc = refl
named_itself Flr = refl
named_itself Nam = refl
named_itself Pc = refl
named_itself Bld = refl
named_itself UnitNumber = refl
named_itself Room = refl
named_itself Seat = refl
named_itself Plc = refl
named_itself Pcn = refl
named_itself PoBox = refl
named_itself AddCode = refl

-- where no element of the table has the name, it is the name of none, and unknown
pub none_named : (name : Text) (i : ℕ) → 31 ≤ i → list_any (λ element. same_text name (element_name element)) (take i all_elements) ≡ false → (is_known name ≡ false) × ((element : Element) → name ≡ element_name element → ⊥)
none_named name i past none =
    let is_named : Text → Element → Bool = λ own element. same_text own (element_name element) in
    let none_of_all : list_any (is_named name) all_elements ≡ false = ap (list_any (is_named name)) (sym (take_all i all_elements past)) ∙ none in
    (is_known-elements name ∙ none_of_all, λ element named. false≢true (sym none_of_all ∙ (ap (λ own. list_any (is_named own) all_elements) named ∙ named_itself element)))
