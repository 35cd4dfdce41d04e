-- What is found in a value, by what is found in its tokens.
use Rattle.std.proofs.Common.{◌≡◌, ℕ, ℤ, List, [], ◌∷◌, ◌++◌, append_assoc, append-nil, Bool, true, false, cond, true≢false, Option, Some, None, is_some, option_map, option_and_then, Bor, refl, sym, ap, ◌∙◌, subst}
use Rattle.std.specs.Prelude.{codes, if◌then◌else◌, unwrap_or, IfSome, MatchOption}
use Rattle.std.specs.Str.{bytes_eq}
use Rattle.std.proofs.lemmas.Slice.Eq.{bytes_eq-Decides}
use Rattle.json.specs.Token.{Token}
use Rattle.json.specs.Json as json
use Rattle.json.specs.Json.{Json}
use Rattle.json.specs.Find as find
use Rattle.json.specs.Find.{BeginsWith, InItems, InMembers, NextItem, NextMember, Finds, later_or}
use Rattle.serde_json.specs.Data.{Data, null, boolean, number, string, array, object, Items, no_items, item, Members, no_members, member, put}
use Rattle.serde_json.specs.Find.{get_member, as_null, as_bool, as_number, as_str, as_array, as_object}
use Rattle.serde_json.specs.Read.{number_of, of_json, of_items, of_members}
use Rattle.serde_json.proofs.Views.{get_member-put, get_member-put_other}
use Rattle.lost_reading.specs.Members.{unless_null, only_member, each_of, whole_in, two_of, pair_in}
use Rattle.lost_reading.specs.Desk.{is_desk_name}
use Rattle.lost_tape.specs.Tapes.{tree_at, data_of, members_of, IsTree, HoldsItems}
use Rattle.lost_tape.proofs.TreeLemmas.{held, tree_at-from, data_of-from, IsTree-from}

-- ---- what a reading is made of

made : {A B : Type 0} (f : A → B) (o : Option A) (b : B) → option_map f o ≡ Some b → (a : A) × (o ≡ Some a) × (f a ≡ b)
made f None b e = absurd (cc)
made f (Some a) b e = (a, refl, cc)

pub went : {A B : Type 0} (f : A → Option B) (o : Option A) (b : B) → option_and_then f o ≡ Some b → (a : A) × (o ≡ Some a) × (f a ≡ Some b)
went f None b e = absurd (cc)
went f (Some a) b e = (a, refl, e)

-- ---- texts, truth values, numbers

text_of : (j : Json) (d : Data) (s : List ℕ) → of_json j ≡ Some d → find.as_str j ≡ Some s → as_str d ≡ Some s
text_of json.null d s is e = absurd (cc)
text_of (json.boolean b) d s is e = absurd (cc)
text_of (json.number t) d s is e = absurd (cc)
text_of (json.string t) d s is e = let same : string t ≡ d = cc in ap as_str (sym same) ∙ e
text_of (json.array js) d s is e = absurd (cc)
text_of (json.object ms) d s is e = absurd (cc)

truth_of : (j : Json) (d : Data) (b : Bool) → of_json j ≡ Some d → find.as_bool j ≡ Some b → as_bool d ≡ Some b
truth_of json.null d b is e = absurd (cc)
truth_of (json.boolean t) d b is e = let same : boolean t ≡ d = cc in ap as_bool (sym same) ∙ e
truth_of (json.number t) d b is e = absurd (cc)
truth_of (json.string t) d b is e = absurd (cc)
truth_of (json.array js) d b is e = absurd (cc)
truth_of (json.object ms) d b is e = absurd (cc)

number_in : (j : Json) (d : Data) (s : List ℕ) → of_json j ≡ Some d → find.as_number j ≡ Some s → as_number d ≡ number_of s
number_in json.null d s is e = absurd (cc)
number_in (json.boolean t) d s is e = absurd (cc)
number_in (json.number t) d s is e =
    let m = made number (number_of t) d is in
    let same : t ≡ s = cc in
    ap as_number (sym m.2) ∙ sym m.1 ∙ ap number_of same
number_in (json.string t) d s is e = absurd (cc)
number_in (json.array js) d s is e = absurd (cc)
number_in (json.object ms) d s is e = absurd (cc)

null_of : (j : Json) (d : Data) → of_json j ≡ Some d → is_some (as_null d) ≡ find.is_null j
null_of json.null d is = let same : null ≡ d = cc in ap (λ x. is_some (as_null x)) (sym same)
null_of (json.boolean t) d is = let same : boolean t ≡ d = cc in ap (λ x. is_some (as_null x)) (sym same)
null_of (json.number t) d is = ap (λ x. is_some (as_null x)) (sym (made number (number_of t) d is).2)
null_of (json.string t) d is = let same : string t ≡ d = cc in ap (λ x. is_some (as_null x)) (sym same)
null_of (json.array js) d is = ap (λ x. is_some (as_null x)) (sym (made array (of_items js) d is).2)
null_of (json.object ms) d is = ap (λ x. is_some (as_null x)) (sym (made object (of_members ms no_members) d is).2)

pub text_held : (ts : List Token) (r : Option (Bor (List ℕ))) → IsTree ts → ((j : Json) → BeginsWith ts j → option_map (λ s. s.now) r ≡ find.as_str j)
    → IfSome r (λ s. as_str (data_of ts) ≡ Some s.now)
text_held ts None h given = tt
text_held ts (Some s) h given =
    let x = held ts h in
    ap as_str (data_of-from ts x.1 x.4) ∙ text_of x.0 x.1 s.now x.3 (sym (given x.0 x.2))

pub truth_held : (ts : List Token) (r : Option Bool) → IsTree ts → ((j : Json) → BeginsWith ts j → r ≡ find.as_bool j) → IfSome r (λ b. as_bool (data_of ts) ≡ Some b)
truth_held ts None h given = tt
truth_held ts (Some b) h given =
    let x = held ts h in
    ap as_bool (data_of-from ts x.1 x.4) ∙ truth_of x.0 x.1 b x.3 (sym (given x.0 x.2))

pub number_held : (ts : List Token) (s : List ℕ) → IsTree ts → ((j : Json) → BeginsWith ts j → Some s ≡ find.as_number j) → as_number (data_of ts) ≡ number_of s
number_held ts s h given =
    let x = held ts h in
    ap as_number (data_of-from ts x.1 x.4) ∙ number_in x.0 x.1 s x.3 (sym (given x.0 x.2))

-- ---- objects

abbrev Opens : Option (List Token) → Json → Type 0
Opens r j = MatchOption r (find.as_object j ≡ None) (λ rest. (ms : json.Members) × (j ≡ json.object ms) × InMembers rest ms)

pub object_of : (ms : json.Members) (d : Data) → of_json (json.object ms) ≡ Some d → (found : Members) × (of_members ms no_members ≡ Some found) × (object found ≡ d)
object_of ms d is = made object (of_members ms no_members) d is

pub object_held : (ts : List Token) (r : Option (List Token)) → IsTree ts → ((j : Json) → BeginsWith ts j → Opens r j) → is_some r ≡ true → as_object (data_of ts) ≡ Some (members_of ts)
object_held ts None h given e = absurd (true≢false (sym e))
object_held ts (Some rest) h given e =
    let x = held ts h in
    let opened = given x.0 x.2 in
    let o = object_of opened.0 x.1 (sym (ap of_json opened.1) ∙ x.3) in
    let same : data_of ts ≡ object o.0 = data_of-from ts x.1 x.4 ∙ sym o.2 in
    subst (λ d. as_object d ≡ Some (unwrap_or (as_object d) no_members)) (sym same) refl

-- what the last member of a name is, where there is one
abbrev chosen : Option Json → Option Data → Option Data
chosen None other = other
chosen (Some j) other = of_json j

named : (name k : List ℕ) (j : Json) (d : Data) (before : Members) (b : Bool) → bytes_eq k name ≡ b → of_json j ≡ Some d
    → get_member name (put k d before) ≡ chosen (cond b (Some j) None) (get_member name before)
named name k j d before true same is =
    let e : k ≡ name = (bytes_eq-Decides k name).0 same in
    ap (λ n. get_member n (put k d before)) (sym e) ∙ get_member-put k d before ∙ sym is
named name k j d before false other is =
    get_member-put_other name k d before (λ e. true≢false (sym ((bytes_eq-Decides k name).1 (sym e)) ∙ other))

later_chosen : (name k : List ℕ) (j : Json) (d : Data) (before : Members) (later : Option Json) → of_json j ≡ Some d
    → chosen later (get_member name (put k d before)) ≡ chosen (later_or later (cond (bytes_eq k name) (Some j) None)) (get_member name before)
later_chosen name k j d before None is = named name k j d before (bytes_eq k name) refl is
later_chosen name k j d before (Some i) is = refl

get_of_members : (name : List ℕ) (ms : json.Members) (before found : Members) → of_members ms before ≡ Some found
    → get_member name found ≡ chosen (find.get_member name ms) (get_member name before)
get_of_members name json.no_members before found e = let same : before ≡ found = cc in ap (get_member name) (sym same)
get_of_members name (json.member k j ms) before found e =
    let d = went (λ d. of_members ms (put k d before)) (of_json j) found e in
    get_of_members name ms (put k d.0 before) found d.2 ∙ later_chosen name k j d.0 before (find.get_member name ms) d.1

here_or : (b : Bool) (j i : Json) (d : Data) → of_json j ≡ Some d → cond b (Some j) None ≡ Some i → (t : Data) × (of_json i ≡ Some t)
here_or true j i d is e = let same : j ≡ i = cc in (d, ap of_json (sym same) ∙ is)
here_or false j i d is e = absurd (cc)

part_or : (later : Option Json) (b : Bool) (j i : Json) (d : Data) → of_json j ≡ Some d → ((k : Json) → later ≡ Some k → (t : Data) × (of_json k ≡ Some t))
    → later_or later (cond b (Some j) None) ≡ Some i → (t : Data) × (of_json i ≡ Some t)
part_or None b j i d is more e = here_or b j i d is e
part_or (Some k) b j i d is more e = more i e

-- each member of what has a tree has one
part_of_members : (name : List ℕ) (ms : json.Members) (before found : Members) (i : Json) → of_members ms before ≡ Some found → find.get_member name ms ≡ Some i
    → (t : Data) × (of_json i ≡ Some t)
part_of_members name json.no_members before found i e is = absurd (cc)
part_of_members name (json.member k j ms) before found i e is =
    let d = went (λ d. of_members ms (put k d before)) (of_json j) found e in
    part_or (find.get_member name ms) (bytes_eq k name) j i d.0 d.1 (λ l h. part_of_members name ms (put k d.0 before) found l d.2 h) is

abbrev pub FoundTree : Option (List Token) → Option Data → Type 0
FoundTree None o = o ≡ None
FoundTree (Some us) o = (d : Data) × (tree_at us ≡ Some d) × (o ≡ Some d)

abbrev in_members : Data → Members
in_members d = unwrap_or (as_object d) no_members

-- nothing is found in what is no object
no_object : (name : List ℕ) (d : Data) (r : Option (List Token)) → as_object d ≡ None → Finds r None → FoundTree r (get_member name (in_members d))
no_object name d None none f = ap (λ o. get_member name (unwrap_or o no_members)) none
no_object name d (Some us) none f = absurd (let e = f.1 in cc)

in_object : (name : List ℕ) (ms : json.Members) (found : Members) (r : Option (List Token)) → of_members ms no_members ≡ Some found → Finds r (find.get_member name ms)
    → FoundTree r (get_member name found)
in_object name ms found None e f = get_of_members name ms no_members found e ∙ ap (λ o. chosen o None) f
in_object name ms found (Some us) e f =
    let part = part_of_members name ms no_members found f.0 e f.1 in
    (part.0, tree_at-from us f.0 part.0 f.2 part.1, get_of_members name ms no_members found e ∙ ap (λ o. chosen o None) f.1 ∙ part.1)

found_in : (name : List ℕ) (j : Json) (d : Data) (r : Option (List Token)) → of_json j ≡ Some d → Finds r (find.get name j) → FoundTree r (get_member name (in_members d))
found_in name json.null d r is f = no_object name d r (let same : null ≡ d = cc in ap as_object (sym same)) f
found_in name (json.boolean t) d r is f = no_object name d r (let same : boolean t ≡ d = cc in ap as_object (sym same)) f
found_in name (json.number t) d r is f = no_object name d r (ap as_object (sym (made number (number_of t) d is).2)) f
found_in name (json.string t) d r is f = no_object name d r (let same : string t ≡ d = cc in ap as_object (sym same)) f
found_in name (json.array js) d r is f = no_object name d r (ap as_object (sym (made array (of_items js) d is).2)) f
found_in name (json.object ms) d r is f =
    let o = object_of ms d is in
    subst (λ x. FoundTree r (get_member name (in_members x))) o.2 (in_object name ms o.0 r o.1 f)

pub member_held : (name : List ℕ) (ts : List Token) (r : Option (List Token)) → IsTree ts → ((j : Json) → BeginsWith ts j → Finds r (find.get name j))
    → FoundTree r (get_member name (members_of ts))
member_held name ts r h given =
    let x = held ts h in
    subst (λ d. FoundTree r (get_member name (in_members d))) (sym (data_of-from ts x.1 x.4)) (found_in name x.0 x.1 r x.3 (given x.0 x.2))

-- whether a value is `null`
pub null_held : (ts : List Token) (d : Data) (b : Bool) → tree_at ts ≡ Some d → ((j : Json) → BeginsWith ts j → b ≡ find.is_null j) → is_some (as_null d) ≡ b
null_held ts d b at given =
    let x = held ts (IsTree-from ts d at) in
    let same : x.1 ≡ d = let e = x.4 in cc in
    ap (λ t. is_some (as_null t)) (sym same) ∙ null_of x.0 x.1 x.3 ∙ sym (given x.0 x.2)

pub unless_held : (ts : List Token) (b : Bool) → IsTree ts → ((j : Json) → BeginsWith ts j → b ≡ find.is_null j) → unless_null (data_of ts) ≡ (if b then None else Some (data_of ts))
unless_held ts b h given =
    let x = held ts h in
    ap (λ is. if is then None else Some (data_of ts)) (ap (λ d. is_some (as_null d)) (data_of-from ts x.1 x.4) ∙ null_held ts x.1 b x.4 given)

-- ---- an object of one member

abbrev OneMember : List Token → List ℕ → List Token → Type 0
OneMember ts name us = IsTree us × (only_member (data_of ts) ≡ Some (name, data_of us))

pub one_held : (ts opened after : List Token) (name : List ℕ) (us : List Token) (rest : List Token) → IsTree ts
    → ((j : Json) → BeginsWith ts j → (ms : json.Members) × (j ≡ json.object ms) × InMembers opened ms)
    → NextMember opened (Some (name, us)) after → NextMember after None rest → IsTree us × (only_member (data_of ts) ≡ Some (name, data_of us))
one_held ts opened after name us rest h given first second =
    let x = held ts h in
    let o = given x.0 x.2 in
    let m = first o.0 o.2 in
    let ended : m.1 ≡ json.no_members = second m.1 m.4 in
    let shape : o.0 ≡ json.member name m.0 json.no_members = m.2 ∙ ap (json.member name m.0) ended in
    let read = object_of (json.member name m.0 json.no_members) x.1 (sym (ap of_json (o.1 ∙ ap json.object shape)) ∙ x.3) in
    let d = went (λ d. Some (put name d no_members)) (of_json m.0) read.0 read.1 in
    let at : tree_at us ≡ Some d.0 = tree_at-from us m.0 d.0 m.3 d.1 in
    let inside : member name d.0 no_members ≡ read.0 = let e = d.2 in cc in
    let whole : data_of ts ≡ object (member name d.0 no_members) = data_of-from ts x.1 x.4 ∙ sym read.2 ∙ ap object (sym inside) in
    (IsTree-from us d.0 at, ap only_member whole ∙ ap (λ t. Some (name, t)) (sym (data_of-from us d.0 at)))

-- ---- arrays

pub items_held : (ts rest : List Token) → IsTree ts → ((j : Json) → BeginsWith ts j → (js : json.Items) × (j ≡ json.array js) × InItems rest js)
    → (items : Items) × (as_array (data_of ts) ≡ Some items) × HoldsItems rest items
items_held ts rest h given =
    let x = held ts h in
    let a = given x.0 x.2 in
    let m = made array (of_items a.0) x.1 (sym (ap of_json a.1) ∙ x.3) in
    (m.0, ap as_array (data_of-from ts x.1 x.4 ∙ sym m.2), (a.0, a.2, m.1))

abbrev pub NextTree : Items → Option (List Token) → List Token → Type 0
NextTree held r new = MatchOption r (held ≡ no_items) (λ us. (rest : Items) × (held ≡ item (data_of us) rest) × HoldsItems new rest)

none_left : (js : json.Items) (held : Items) → of_items js ≡ Some held → js ≡ json.no_items → held ≡ no_items
none_left js held e none = let f : of_items json.no_items ≡ Some held = sym (ap of_items none) ∙ e in cc

pub next_held : (old new : List Token) (r : Option (List Token)) (items : Items) → HoldsItems old items → NextItem old r new → NextTree items r new × IfSome r IsTree
next_held old new None items h next = (none_left h.0 items h.2 (next h.0 h.1), tt)
next_held old new (Some us) items h next =
    let n = next h.0 h.1 in
    let e = sym (ap of_items n.2) ∙ h.2 in
    let d = went (λ d. option_map (item d) (of_items n.1)) (of_json n.0) items e in
    let m = made (item d.0) (of_items n.1) items d.2 in
    let at : tree_at us ≡ Some d.0 = tree_at-from us n.0 d.0 n.3 d.1 in
    ((m.0, sym m.2 ∙ ap (λ t. item t m.0) (sym (data_of-from us d.0 at)), (n.1, n.4, m.1)), IsTree-from us d.0 at)

-- ---- lists

-- things before others
abbrev pub after : {A : Type 0} → List A → Option (List A) → Option (List A)
after before rest = option_map (λ xs. before ++ xs) rest

pub after_nothing : {A : Type 0} (o : Option (List A)) → o ≡ after [] o
after_nothing None = refl
after_nothing (Some xs) = refl

-- one more thing goes before the others
pub each_of_next : {Thing : Type 0} (kind : Data → Option Thing) (before : List Thing) (d : Data) (thing : Thing) (rest : Items) → kind d ≡ Some thing
    → after before (each_of kind (item d rest)) ≡ after (before ++ thing ∷ []) (each_of kind rest)
each_of_next kind before d thing rest is =
    ap (λ o. after before (option_and_then (λ x. option_map (λ xs. x ∷ xs) (each_of kind rest)) o)) is ∙ more before thing (each_of kind rest)
  where
    more : {A : Type 0} (xs : List A) (x : A) (o : Option (List A)) → after xs (option_map (λ ys. x ∷ ys) o) ≡ after (xs ++ x ∷ []) o
    more xs x None = refl
    more xs x (Some ys) = ap Some (sym (append_assoc xs (x ∷ []) ys))

pub pair_held : (d : Data) (held one two : Items) (a b : Data) (lat lon : ℤ) → as_array d ≡ Some held → held ≡ item a one → one ≡ item b two → two ≡ no_items
    → whole_in a ≡ Some lat → whole_in b ≡ Some lon → pair_in d ≡ Some (lat, lon)
pair_held d items one two a b lat lon from first second ended is_lat is_lon =
    let whole : items ≡ item a (item b no_items) = first ∙ ap (item a) (second ∙ ap (item b) ended) in
    ap (λ o. option_and_then two_of (option_and_then (each_of whole_in) o)) (from ∙ ap Some whole)
    ∙ ap (λ o. option_and_then two_of (option_and_then (λ x. option_map (λ xs. x ∷ xs) (each_of whole_in (item b no_items))) o)) is_lat
    ∙ ap (λ o. option_and_then two_of (option_map (λ xs. lat ∷ xs) (option_and_then (λ x. option_map (λ xs. x ∷ xs) (Some [])) o))) is_lon

-- ---- names of requests

pub not_desk_find : (name : List ℕ) → bytes_eq (codes "findService") name ≡ true → is_desk_name name ≡ false
not_desk_find name e = ap is_desk_name (sym ((bytes_eq-Decides (codes "findService") name).0 e))

pub not_desk_services_at : (name : List ℕ) → bytes_eq (codes "listServicesByLocation") name ≡ true → is_desk_name name ≡ false
not_desk_services_at name e = ap is_desk_name (sym ((bytes_eq-Decides (codes "listServicesByLocation") name).0 e))

pub after_none : {A : Type 0} (before : List A) → after before (Some []) ≡ Some before
after_none before = ap Some (append-nil before)
