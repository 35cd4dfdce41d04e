-- Each item of a list by one kind, and each member of an object by its text, as far as a loop has come.
use Rattle.std.proofs.Common.{◌≡◌, ℕ, zero, suc, ◌+◌, ◌<◌, List, [], ◌∷◌, ◌++◌, length, take, get_or, add-one, Option, Some, None, option_map, option_and_then, ℤ, String, Global, string_bytes, refl, sym, ap, ◌∙◌, arith, append_assoc}
use Rattle.std.proofs.lemmas.List.{map-append}
use Rattle.serde_json.specs.Data.{Data}
use Rattle.serde_json.specs.Find.{as_str}
use Rattle.serde_json.specs.View.{view, items_view, members_view}
use Rattle.serde_json.specs.declared.value.Value.{Value}
use Rattle.serde_json.proofs.Views.{Entry}
use Rattle.lost_spec.specs.Text.{Text}
use Rattle.lost_spec.specs.Civic.{Pairs}
use Rattle.lost_civic.specs.Pairs.{seen_pair, seen_pairs}
use Rattle.lost_reading.specs.Members.{each_of, whole_in, two_of, pairs_of}
use Rattle.lost_reading.specs.Gives.{Refuses}
use Rattle.lost_reading.specs.declared.request.ReadError.{ReadError}
use Rattle.lost_reading.specs.declared.request.ReadError.TheVariants.{BadRequest, Memory}

-- where a refused part leaves nothing of the whole, its refusal refuses the whole
pub Refuses-whole : {Part Whole : Type 0} (fault : ReadError) (part : Option Part) (whole : Option Whole) → (part ≡ None → whole ≡ None) → Refuses fault part → Refuses fault whole
Refuses-whole BadRequest part whole with_part h = with_part h
Refuses-whole Memory part whole with_part h = tt

-- ---- one thing before others

-- a thing made of the first, before the rest
abbrev before : {First Thing : Type 0} → (First → Thing) → Option First → Option (List Thing) → Option (List Thing)
before made first rest = option_and_then (λ x. option_map (λ things. made x ∷ things) rest) first

before-None : {First Thing : Type 0} (made : First → Thing) (first : Option First) (rest : Option (List Thing)) → rest ≡ None → before made first rest ≡ None
before-None made None rest h = refl
before-None made (Some x) rest h = rw h refl

before-more : {First Thing : Type 0} (made : First → Thing) (first : Option First) (rest more : Option (List Thing)) (things : List Thing) (thing : Thing)
    → ((found : List Thing) → rest ≡ Some found → more ≡ Some (found ++ thing ∷ []))
    → before made first rest ≡ Some things → before made first more ≡ Some (things ++ thing ∷ [])
before-more made None rest more things thing step h = cc
before-more made (Some x) None more things thing step h = cc
before-more made (Some x) (Some found) more things thing step h =
    let same : made x ∷ found ≡ things = cc in
    rw (step found refl) (ap (λ l. Some (l ++ thing ∷ [])) same)

-- ---- lists

each_of-suc : {Thing : Type 0} (kind : Data → Option Thing) (values : List Value) (i : ℕ) (d : Value) (things : List Thing) (thing : Thing) → i < length values
    → each_of kind (items_view (take i values)) ≡ Some things → kind (view (get_or values i d)) ≡ Some thing
    → each_of kind (items_view (take (suc i) values)) ≡ Some (things ++ thing ∷ [])
each_of-suc kind [] i d things thing within done now = absurd (omega arith)
each_of-suc kind (value ∷ values) zero d things thing within done now =
    let none : [] ≡ things = cc in
    rw (now, ← none) refl
each_of-suc kind (value ∷ values) (suc i) d things thing within done now =
    before-more (λ x. x) (kind (view value)) _ _ things thing (λ found e. each_of-suc kind values i d found thing (omega arith) e now) done

-- one more item that is of the kind
pub each_of-more : {Thing : Type 0} (kind : Data → Option Thing) (values : List Value) (i : ℕ) (d : Value) (things : List Thing) (thing : Thing) → i < length values
    → each_of kind (items_view (take i values)) ≡ Some things → kind (view (get_or values i d)) ≡ Some thing
    → each_of kind (items_view (take (i + 1) values)) ≡ Some (things ++ thing ∷ [])
each_of-more kind values i d things thing within done now = rw add-one (each_of-suc kind values i d things thing within done now)

-- an item that is not of the kind
pub each_of-None : {Thing : Type 0} (kind : Data → Option Thing) (values : List Value) (i : ℕ) (d : Value) → i < length values
    → kind (view (get_or values i d)) ≡ None → each_of kind (items_view values) ≡ None
each_of-None kind [] i d within now = absurd (omega arith)
each_of-None kind (value ∷ values) zero d within now = rw now refl
each_of-None kind (value ∷ values) (suc i) d within now =
    before-None (λ x. x) (kind (view value)) _ (each_of-None kind values i d (omega arith) now)

-- ---- positions

-- a list of another length is no position
two_past : (first second third : Option ℤ) (rest : Option (List ℤ)) → option_and_then two_of (before (λ x. x) first (before (λ x. x) second (before (λ x. x) third rest))) ≡ None
two_past None second third rest = refl
two_past (Some x) None third rest = refl
two_past (Some x) (Some y) None rest = refl
two_past (Some x) (Some y) (Some z) None = refl
two_past (Some x) (Some y) (Some z) (Some more) = refl

one_alone : (first : Option ℤ) → option_and_then two_of (before (λ x. x) first (Some [])) ≡ None
one_alone None = refl
one_alone (Some x) = refl

pub two_of-below : (values : List Value) → length values < 2 → option_and_then two_of (each_of whole_in (items_view values)) ≡ None
two_of-below [] h = refl
two_of-below (value ∷ []) h = one_alone (whole_in (view value))
two_of-below (value ∷ second ∷ rest) h = absurd (omega arith)

pub two_of-above : (values : List Value) → 2 < length values → option_and_then two_of (each_of whole_in (items_view values)) ≡ None
two_of-above [] h = absurd (omega arith)
two_of-above (value ∷ []) h = absurd (omega arith)
two_of-above (value ∷ second ∷ []) h = absurd (omega arith)
two_of-above (value ∷ second ∷ third ∷ rest) h = two_past (whole_in (view value)) (whole_in (view second)) (whole_in (view third)) (each_of whole_in (items_view rest))

-- ---- objects

pub pairs_of-member : (done : List Entry) (e : Entry) (pairs : Pairs) (text : Text) → as_str (view e.1) ≡ Some text → pairs_of (members_view done) ≡ Some pairs
    → pairs_of (members_view (done ++ e ∷ [])) ≡ Some (pairs ++ (string_bytes e.0, text) ∷ [])
pairs_of-member [] e pairs text now h =
    let none : [] ≡ pairs = cc in
    rw (now, ← none) refl
pairs_of-member (first ∷ done) e pairs text now h =
    before-more (λ t. (string_bytes first.0, t)) (as_str (view first.1)) _ _ pairs (string_bytes e.0, text) (λ found is. pairs_of-member done e found text now is) h

-- one more member whose value is a text
pub pairs_of-more : (done : List Entry) (e : Entry) (pairs : List (String Global × String Global)) (name text : String Global)
    → string_bytes name ≡ string_bytes e.0 → as_str (view e.1) ≡ Some (string_bytes text) → pairs_of (members_view done) ≡ Some (seen_pairs pairs)
    → pairs_of (members_view (done ++ e ∷ [])) ≡ Some (seen_pairs (pairs ++ (name, text) ∷ []))
pairs_of-more done e pairs name text named now h =
    pairs_of-member done e (seen_pairs pairs) (string_bytes text) now h
    ∙ ap Some (ap (λ n. seen_pairs pairs ++ (n, string_bytes text) ∷ []) (sym named) ∙ sym (map-append seen_pair pairs ((name, text) ∷ [])))

-- a member whose value is no text
pairs_of-None : (done : List Entry) (e : Entry) (left : List Entry) → as_str (view e.1) ≡ None → pairs_of (members_view (done ++ e ∷ left)) ≡ None
pairs_of-None [] e left now = rw now refl
pairs_of-None (first ∷ done) e left now = before-None (λ t. (string_bytes first.0, t)) (as_str (view first.1)) _ (pairs_of-None done e left now)

-- the same at a place of a walk over the members
pub pairs_of-at_None : (all done rest left : List Entry) (e : Entry) → all ≡ done ++ rest → rest ≡ e ∷ left → as_str (view e.1) ≡ None → pairs_of (members_view all) ≡ None
pairs_of-at_None all done rest left e splits steps none = ap (λ es. pairs_of (members_view es)) (splits ∙ ap (λ es. done ++ es) steps) ∙ pairs_of-None done e left none

-- a walk over a list, one step on
pub one_step_on : {A : Type 0} (all done rest left : List A) (e : A) → all ≡ done ++ rest → rest ≡ e ∷ left → all ≡ (done ++ e ∷ []) ++ left
one_step_on all done rest left e splits steps = splits ∙ ap (λ es. done ++ es) steps ∙ sym (append_assoc done (e ∷ []) left)
