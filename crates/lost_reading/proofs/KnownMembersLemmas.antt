-- What is kept of a line tells what the line is.
use Rattle.std.proofs.Common.{◌≡◌, ℕ, List, Bool, true, false, true≢false, Ordering, Less, Equal, Greater, nat_cmp, Option, Some, None, IfSome, IfOk, OnOk, Result, Ok, Err, option_map, option_and_then, unwrap_or, if◌then◌else◌, codes, refl, sym, ap, ◌∙◌, subst}
use Rattle.std.specs.Str.{bytes_eq, IsUtf8}
use Rattle.std.proofs.lemmas.Str.{is_utf8-from_IsUtf8}
use Rattle.std.specs.Cmp.Lexicographic.{slice_cmp}
use Rattle.std.specs.Ordering.{match_ordering}
use Rattle.std.proofs.lemmas.Slice.Eq.{bytes_eq-Decides}
use Rattle.serde_json.specs.Data.{Data, object, Members, no_members, member, put}
use Rattle.serde_json.specs.Find.{get_member, as_object}
use Rattle.serde_json.specs.Read.{read, of_json, converted}
use Rattle.json.specs.Json as json
use Rattle.json.specs.Token.{Token}
use Rattle.lost_reading.specs.declared.request.ReadError.{ReadError}
use Rattle.serde_json.proofs.Views.{get_member-put, get_member-put_other}
use Rattle.lost_spec.specs.Text.{Text}
use Rattle.lost_reading.specs.declared.desk.DeskFault.{DeskFault}
use Rattle.lost_reading.specs.declared.desk.DeskFault.TheVariants.{BadLine}
use Rattle.lost_reading.specs.Members.{tree_of, one_of}
use Rattle.lost_reading.specs.Requests.{request_named, request_of_member, request_in, line_request}
use Rattle.lost_reading.specs.Desk.{Order, is_desk_name, order_named, order_of_member, order_in, desk_line}
use Rattle.lost_reading.specs.KnownMembers.{is_known, HaveSameKnown, AreObjects, HaveSameNames, IsNeither, Tells}
use Rattle.lost_reading.specs.Gives.{Gives}
use Rattle.lost_reading.specs.Lines.{GivesWhole}
use Rattle.lost_reading.specs.declared.line.Line.{Line}
use Rattle.lost_mapping.specs.Request.{request_of}
use Rattle.lost_mapping.specs.declared.request.Request as message
use Rattle.lost_spec.specs.Request.{Request}
use Rattle.serde_json.specs.View.{view}
use Rattle.serde_json.specs.declared.value.Value.{Value}
use Rattle.lost_reading.proofs.TreeLemmas.{tree_of-None}

-- ---- known members

apart : (name k : Text) → bytes_eq name k ≡ false → name ≡ k → ⊥
apart name k other e = true≢false (sym ((bytes_eq-Decides name k).1 e) ∙ other)

put_at : (same : Bool) (name k : Text) (d : Data) (all kept : Members) → bytes_eq name k ≡ same → get_member name all ≡ get_member name kept
    → get_member name (put k d all) ≡ get_member name (put k d kept)
put_at true name k d all kept is h =
    let e : name ≡ k = (bytes_eq-Decides name k).0 is in
    let at_all : get_member name (put k d all) ≡ Some d = ap (λ n. get_member n (put k d all)) e ∙ get_member-put k d all in
    let at_kept : get_member name (put k d kept) ≡ Some d = ap (λ n. get_member n (put k d kept)) e ∙ get_member-put k d kept in
    at_all ∙ sym at_kept
put_at false name k d all kept is h =
    get_member-put_other name k d all (apart name k is) ∙ h ∙ sym (get_member-put_other name k d kept (apart name k is))

-- a member that is put into both stays the same in both
pub known_put : (k : Text) (d : Data) (all kept : Members) → HaveSameKnown all kept → HaveSameKnown (put k d all) (put k d kept)
known_put k d all kept same name known = put_at (bytes_eq name k) name k d all kept refl (same name known)

-- a member of an unknown name changes no known one
pub unknown_put : (k : Text) (d : Data) (all kept : Members) → is_known k ≡ false → HaveSameKnown all kept → HaveSameKnown (put k d all) kept
unknown_put k d all kept unknown same name known =
    get_member-put_other name k d all (λ e. true≢false (sym known ∙ ap is_known e ∙ unknown)) ∙ same name known

-- ---- what an object's members make

pub request_same : (name : Text) (all kept : Members) → HaveSameKnown all kept → request_named name all ≡ request_named name kept
request_same name all kept same =
    rw (same (codes "service") refl, same (codes "location") refl, same (codes "validateLocation") refl, same (codes "serviceBoundary") refl, same (codes "path") refl, same (codes "key") refl) refl

pub order_same : (name : Text) (all kept : Members) → HaveSameKnown all kept → order_named name all ≡ order_named name kept
order_same name all kept same = rw (
  same (codes "source") refl,
  same (codes "sourceId") refl,
  same (codes "lastUpdated") refl,
  same (codes "expires") refl,
  same (codes "service") refl,
  same (codes "uri") refl,
  same (codes "serviceNumber") refl,
  same (codes "serviceBoundary") refl,
  same (codes "default") refl,
  same (codes "displayName") refl,
  same (codes "key") refl,
) refl

-- ---- the members of a line's object

over : {Thing : Type 0} (f : Members → Thing) → ((all kept : Members) → HaveSameKnown all kept → f all ≡ f kept) → (a b : Option Members) → AreObjects HaveSameKnown a b
    → option_map f a ≡ option_map f b
over f h None None same = refl
over f h None (Some kept) same = absurd same
over f h (Some all) None same = absurd same
over f h (Some all) (Some kept) same = ap (λ x. Some x) (h all kept same)

over_then : {Thing : Type 0} (f : Members → Option Thing) → ((all kept : Members) → HaveSameKnown all kept → f all ≡ f kept) → (a b : Option Members) → AreObjects HaveSameKnown a b
    → option_and_then f a ≡ option_and_then f b
over_then f h None None same = refl
over_then f h None (Some kept) same = absurd same
over_then f h (Some all) None same = absurd same
over_then f h (Some all) (Some kept) same = h all kept same

request_at : (name other : Text) (value kept : Data) → name ≡ other → AreObjects HaveSameKnown (as_object value) (as_object kept)
    → request_of_member (name, value) ≡ request_of_member (other, kept)
request_at name other value kept e same =
    over_then (request_named name) (request_same name) (as_object value) (as_object kept) same ∙ ap (λ n. request_of_member (n, kept)) e

order_at : (name other : Text) (value kept : Data) → name ≡ other → AreObjects HaveSameKnown (as_object value) (as_object kept)
    → order_of_member (name, value) ≡ order_of_member (other, kept)
order_at name other value kept e same =
    ap (λ o. if is_desk_name name then Some (unwrap_or o (Err BadLine)) else None) (over (order_named name) (order_same name) (as_object value) (as_object kept) same)
    ∙ ap (λ n. order_of_member (n, kept)) e

-- what one member gives, whatever that is
one_alike : {Thing : Type 0} (f : Text × Data → Option Thing) → ((name other : Text) (value kept : Data) → name ≡ other → AreObjects HaveSameKnown (as_object value) (as_object kept) → f (name, value) ≡ f (other, kept))
    → (all kept : Members) → HaveSameNames all kept → option_and_then f (one_of all) ≡ option_and_then f (one_of kept)
one_alike f alike no_members no_members same = refl
one_alike f alike no_members (member l w ns) same = absurd same
one_alike f alike (member k v ms) no_members same = absurd same
one_alike f alike (member k v no_members) (member l w no_members) same = alike k l v w same.0 same.1
one_alike f alike (member k v no_members) (member l w (member m x ns)) same = absurd same.2
one_alike f alike (member k v (member m x ms)) (member l w no_members) same = absurd same.2
one_alike f alike (member k v (member m x ms)) (member l w (member n y ns)) same = refl

pub request_names : (all kept : Members) → HaveSameNames all kept → request_in (object all) ≡ request_in (object kept)
request_names all kept same = one_alike request_of_member request_at all kept same

pub order_names : (all kept : Members) → HaveSameNames all kept → order_in (object all) ≡ order_in (object kept)
order_names all kept same = one_alike order_of_member order_at all kept same

three : (o : Ordering) (a b c d e f : Members) → HaveSameNames a d → HaveSameNames b e → HaveSameNames c f
    → HaveSameNames (match_ordering o a b c) (match_ordering o d e f)
three Less a b c d e f x y z = x
three Equal a b c d e f x y z = y
three Greater a b c d e f x y z = z

-- what is put into both at a name keeps their names the same
pub names_put : (k : Text) (d e : Data) (all kept : Members) → AreObjects HaveSameKnown (as_object d) (as_object e) → HaveSameNames all kept
    → HaveSameNames (put k d all) (put k e kept)
names_put k d e no_members no_members like same = (refl, like, tt)
names_put k d e no_members (member m w ns) like same = absurd same
names_put k d e (member l v ms) no_members like same = absurd same
names_put k d e (member l v ms) (member m w ns) like same =
    subst (λ x. HaveSameNames (put k d (member l v ms)) (match_ordering (slice_cmp nat_cmp k x) (member k e (member m w ns)) (member m e ns) (member m w (put k e ns)))) same.0
    (three (slice_cmp nat_cmp k l) (member k d (member l v ms)) (member l d ms) (member l v (put k d ms)) (member k e (member m w ns)) (member m e ns) (member m w (put k e ns))
    (refl, like, same) (same.0, like, same.2) (same.0, same.1, names_put k d e ms ns like same.2))

-- ---- members, one after another

pub kept_known : (k : Text) (d : Data) (was now : Members) → now ≡ put k d was → (all : Members) → HaveSameKnown all was → HaveSameKnown (put k d all) now
kept_known k d was now is all same = subst (HaveSameKnown (put k d all)) (sym is) (known_put k d all was same)

-- a member that was kept, in the form of a result
pub kept_member : (result : Result (Unit {0}) ReadError) (k : Text) (read : Option (json.Json × List Token)) (rest : List Token) (was now : Members)
    → OnOk result ((d : Data) × (converted of_json read ≡ Some (d, rest)) × (now ≡ put k d was))
    → OnOk result ((d : Data) × (converted of_json read ≡ Some (d, rest)) × ((all : Members) → HaveSameKnown all was → HaveSameKnown (put k d all) now))
kept_member (Ok done) k read rest was now h = (h.0, h.1, kept_known k h.0 was now h.2)
kept_member (Err fault) k read rest was now h = tt

pub kept_named : (k : Text) (d e : Data) (was now : Members) → now ≡ put k e was → AreObjects HaveSameKnown (as_object d) (as_object e)
    → (all : Members) → HaveSameNames all was → HaveSameNames (put k d all) now
kept_named k d e was now is like all same = subst (HaveSameNames (put k d all)) (sym is) (names_put k d e all was like same)

pub no_objects : (o : Option Members) → o ≡ None → AreObjects HaveSameKnown o None
no_objects None e = tt
no_objects (Some all) e = absurd (cc)

-- ---- what a line is

pub no_request : (tree : Option Data) → IfSome tree (λ d. as_object d ≡ None) → option_and_then request_in tree ≡ None
no_request None none = refl
no_request (Some d) none = ap (λ o. option_and_then request_of_member (option_and_then one_of o)) none

pub no_order : (tree : Option Data) → IfSome tree (λ d. as_object d ≡ None) → option_and_then order_in tree ≡ None
no_order None none = refl
no_order (Some d) none = ap (λ o. option_and_then order_of_member (option_and_then one_of o)) none

tree_of-read : (line text : List ℕ) → (text ≡ line) × IsUtf8 line → read text ≡ tree_of line
unfolding tree_of
tree_of-read line text h = ap read h.0 ∙ sym (ap (λ b. if b then read line else None) (is_utf8-from_IsUtf8 line h.1))

pub line_request-read : (line text : List ℕ) → (text ≡ line) × IsUtf8 line → option_and_then request_in (read text) ≡ line_request line
unfolding line_request
line_request-read line text h = ap (option_and_then request_in) (tree_of-read line text h)

pub desk_line-read : (line text : List ℕ) → (text ≡ line) × IsUtf8 line → option_and_then order_in (read text) ≡ desk_line line
unfolding desk_line
desk_line-read line text h = ap (option_and_then order_in) (tree_of-read line text h)

pub no_utf8 : (line : List ℕ) → (IsUtf8 line → ⊥) → IsNeither line
unfolding line_request desk_line
no_utf8 line h =
    let none = tree_of-None line (λ is. absurd (h is)) in
    (ap (option_and_then request_in) none, ap (option_and_then order_in) none)

pub tells_line : (result : Result Value ReadError) (line : List ℕ) (request : Option Request) (order : Option (Result Order DeskFault)) → request ≡ line_request line → order ≡ desk_line line
    → IfOk result (λ tree. (request ≡ request_in (view tree)) × (order ≡ order_in (view tree))) → IfOk result (λ tree. Tells (view tree) line)
tells_line (Ok tree) line request order asked ordered h = (sym asked ∙ h.0, sym ordered ∙ h.1)
tells_line (Err fault) line request order asked ordered h = tt

-- what the tree of a line gives, the line gives

pub request_told : (result : Result (message.Request) ReadError) (line : List ℕ) (tree : Data) → Tells tree line → Gives request_of result (request_in tree) → Gives request_of result (line_request line)
request_told result line tree tells h = subst (Gives request_of result) (sym tells.0) h

pub line_told : (result : Result Line DeskFault) (line : List ℕ) (tree : Data) → Tells tree line → GivesWhole result (order_in tree) (request_in tree) → GivesWhole result (desk_line line) (line_request line)
line_told result line tree tells h =
    subst (λ o. GivesWhole result o (line_request line)) (sym tells.1)
    (subst (λ r. GivesWhole result (order_in tree) r) (sym tells.0) h)
