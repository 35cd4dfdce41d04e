-- Names in lists: which are there, whether one stands there twice, and lists that are parted by tests.
use Rattle.std.specs.Prelude.{◌≡◌, Bool, true, false, cond, not, ◌&&◌, ◌||◌, IsTrue, IsFalse, List, [], ◌∷◌, ◌++◌, filter}
use Rattle.std.specs.List.{AllByRecursion}
use Rattle.std.proofs.Common.{refl, sym, ap, ◌∙◌}
use Rattle.std.proofs.lemmas.Bool.{cond_both, false≢true, and_parts, and_left, and_right, or_parts, or_from, or_left, or_right, not_from_true}
use Rattle.lost_spec.specs.Text.{Text, same_text, is_among, has_repeat, insert_by, ascending_by}
use Rattle.lost_spec.specs.Laws.{EachWithLater}
use Rattle.lost_spec.proofs.OrderLemmas.{by_insert_by, Precedes, EachWithLater-ascending_by, same_text-same, same_text-itself, same_text-before}

-- ---- tests alone

-- a test that is there already adds nothing
or_again : (s t a : Bool) → s ≡ t → (t || a) ≡ (s || (t || a))
or_again true t a e = or_left t a (sym e)
or_again false t a e = refl

-- the laws of a test or another or a third
or_swap : (s t a : Bool) → (t || (s || a)) ≡ (s || (t || a))
or_swap s true a = sym (or_right s true refl)
or_swap s false a = refl

or_assoc : (a b c : Bool) → ((a || b) || c) ≡ (a || (b || c))
or_assoc true b c = refl
or_assoc false b c = refl

-- whether a thing is there after a filter: s, it is the first; b, the first passes; t, it passes; f and a, it is further on, after and before
filter_step : (s b t f a : Bool) → (s ≡ true → t ≡ b) → f ≡ (t && a) → cond b (s || f) f ≡ (t && (s || a))
filter_step true true t f a h e = rw (h refl) refl
filter_step true false t f a h e = rw (e, h refl) refl
filter_step false true t f a h e = e
filter_step false false t f a h e = e

-- ---- which names are there

-- a name is in a list before another or in that one
pub is_among-append : (name : Text) (xs ys : List Text) → is_among name (xs ++ ys) ≡ (is_among name xs || is_among name ys)
is_among-append name [] ys = refl
is_among-append name (x ∷ xs) ys =
    ap (λ t. same_text name x || t) (is_among-append name xs ys) ∙ sym (or_assoc (same_text name x) (is_among name xs) (is_among name ys))

-- a name is there after a filter where it passes and was there
pub is_among-filter : (name : Text) (p : Text → Bool) (xs : List Text) → is_among name (filter p xs) ≡ (p name && is_among name xs)
is_among-filter name p [] = sym (and_right (p name) false refl)
is_among-filter name p (x ∷ xs) =
    let alike : (b : Bool) → p x ≡ b → IsTrue (same_text name x) → p name ≡ b = λ b e t. ap p (same_text-same name x t) ∙ e in
    let step = λ (b : Bool) (e : p x ≡ b). filter_step (same_text name x) b (p name) (is_among name (filter p xs)) (is_among name xs) (alike b e) (is_among-filter name p xs) in
    cond_both (p x) (x ∷ filter p xs) (filter p xs) (λ l. is_among name l ≡ (p name && (same_text name x || is_among name xs))) (step true) (step false)

-- a name that is put in is there, and all that were
is_among-insert_by : (name x : Text) (xs : List Text) → is_among name (insert_by (λ y. y) x xs) ≡ (same_text name x || is_among name xs)
is_among-insert_by name x [] = refl
is_among-insert_by name x (y ∷ ys) =
    by_insert_by (λ z. z) (λ l. is_among name l ≡ (same_text name x || (same_text name y || is_among name ys))) x y ys
    (λ _. refl)
    (λ e. or_again (same_text name x) (same_text name y) (is_among name ys) (ap (λ z. same_text name z) (same_text-same x y e)))
    (λ _. ap (λ t. same_text name y || t) (is_among-insert_by name x ys) ∙ or_swap (same_text name x) (same_text name y) (is_among name ys))

-- the names of a list are those of the list in order
pub is_among-ascending_by : (name : Text) (xs : List Text) → is_among name (ascending_by (λ y. y) xs) ≡ is_among name xs
is_among-ascending_by name [] = refl
is_among-ascending_by name (x ∷ xs) =
    is_among-insert_by name x (ascending_by (λ y. y) xs) ∙ ap (λ t. same_text name x || t) (is_among-ascending_by name xs)

-- ---- no name twice

-- a name is not among those that it is before
is_among-later : (x : Text) (xs : List Text) → AllByRecursion (Precedes (λ y. y) x) xs → IsFalse (is_among x xs)
is_among-later x [] h = refl
is_among-later x (y ∷ ys) h = or_from (same_text x y) (is_among x ys) (same_text-before x y h.0) (is_among-later x ys h.1)

-- names in order have no repeat
has_repeat-in_order : (xs : List Text) → EachWithLater (Precedes (λ y. y)) xs → IsFalse (has_repeat xs)
has_repeat-in_order [] h = refl
has_repeat-in_order (x ∷ xs) h = or_from (is_among x xs) (has_repeat xs) (is_among-later x xs h.0) (has_repeat-in_order xs h.1)

-- names put in order have no repeat
pub has_repeat-ascending_by : (xs : List Text) → IsFalse (has_repeat (ascending_by (λ y. y) xs))
has_repeat-ascending_by xs = has_repeat-in_order (ascending_by (λ y. y) xs) (EachWithLater-ascending_by (λ y. y) xs)

-- a filter of names without a repeat has none
pub has_repeat-filter : (p : Text → Bool) (xs : List Text) → IsFalse (has_repeat xs) → IsFalse (has_repeat (filter p xs))
has_repeat-filter p [] h = refl
has_repeat-filter p (x ∷ xs) h =
    let parts = or_parts (is_among x xs) (has_repeat xs) h in
    let rest = has_repeat-filter p xs parts.1 in
    let once = is_among-filter x p xs ∙ and_right (p x) (is_among x xs) parts.0 in
    let kept = or_from (is_among x (filter p xs)) (has_repeat (filter p xs)) once rest in
    cond_both (p x) (x ∷ filter p xs) (filter p xs) (λ l. IsFalse (has_repeat l)) (λ _. kept) (λ _. rest)

-- two lists without a repeat, none of whose names is in both, have none together
pub has_repeat-append :
    (xs ys : List Text) → IsFalse (has_repeat xs) → IsFalse (has_repeat ys)
    → ((name : Text) → IsTrue (is_among name xs) → IsFalse (is_among name ys))
    → IsFalse (has_repeat (xs ++ ys))
has_repeat-append [] ys h k apart = k
has_repeat-append (x ∷ xs) ys h k apart =
    let parts = or_parts (is_among x xs) (has_repeat xs) h in
    let elsewhere = apart x (or_left (same_text x x) (is_among x xs) (same_text-itself x)) in
    let once = is_among-append x xs ys ∙ or_from (is_among x xs) (is_among x ys) parts.0 elsewhere in
    let rest = has_repeat-append xs ys parts.1 k (λ name i. apart name (or_right (same_text name x) (is_among name xs) i)) in
    or_from (is_among x (xs ++ ys)) (has_repeat (xs ++ ys)) once rest

-- ---- a list parted by tests

-- a name that is there after a filter passes it
passes_filter : (name : Text) (p : Text → Bool) (xs : List Text) → IsTrue (is_among name (filter p xs)) → IsTrue (p name)
passes_filter name p xs h = (and_parts (p name) (is_among name xs) (sym (is_among-filter name p xs) ∙ h)).0

-- a name that does not pass a filter is not there after it
fails_filter : (name : Text) (p : Text → Bool) (xs : List Text) → IsFalse (p name) → IsFalse (is_among name (filter p xs))
fails_filter name p xs h = is_among-filter name p xs ∙ and_left (p name) (is_among name xs) h

-- where one of two tests holds, not both fail
neither-first : (s t : Bool) → IsTrue s → IsFalse (not s && not t)
neither-first true t h = refl
neither-first false t h = absurd (false≢true h)

neither-second : (s t : Bool) → IsTrue t → IsFalse (not s && not t)
neither-second s true h = and_right (not s) false refl
neither-second s false h = absurd (false≢true h)

-- one of three holds: a test, another, or neither
one_of_three : (s t a : Bool) → ((s && a) || ((t && a) || ((not s && not t) && a))) ≡ a
one_of_three true true true = refl
one_of_three true true false = refl
one_of_three true false true = refl
one_of_three true false false = refl
one_of_three false true true = refl
one_of_three false true false = refl
one_of_three false false a = refl

module _ (p q : Text → Bool) where
  -- neither of the two tests
  abbrev passes_neither : Text → Bool
  passes_neither name = not (p name) && not (q name)

  -- the names that pass one test, those that pass another, and those that pass neither
  abbrev pub parted : List Text → List Text
  parted xs = filter p xs ++ (filter q xs ++ filter passes_neither xs)

  -- the names of a list are those of its parts
  pub is_among-parted : (name : Text) (xs : List Text) → is_among name (parted xs) ≡ is_among name xs
  is_among-parted name xs =
      simp (is_among-append, is_among-filter) (one_of_three (p name) (q name) (is_among name xs))

  module _ (apart : (name : Text) → IsTrue (p name) → IsFalse (q name)) where
    -- a name of the first part is in neither of the others, where no name passes both tests
    is_among-other_parts :
        (name : Text) (xs : List Text) → IsTrue (is_among name (filter p xs))
        → IsFalse (is_among name (filter q xs ++ filter passes_neither xs))
    is_among-other_parts name xs h =
        let passed = passes_filter name p xs h in
        let second = fails_filter name q xs (apart name passed) in
        let third = fails_filter name passes_neither xs (neither-first (p name) (q name) passed) in
        is_among-append name (filter q xs) (filter passes_neither xs) ∙ or_from (is_among name (filter q xs)) (is_among name (filter passes_neither xs)) second third

    -- a name of the second part is not in the third
    is_among-third_part :
        (name : Text) (xs : List Text) → IsTrue (is_among name (filter q xs))
        → IsFalse (is_among name (filter passes_neither xs))
    is_among-third_part name xs h = fails_filter name passes_neither xs (neither-second (p name) (q name) (passes_filter name q xs h))

    -- the parts of names without a repeat have none together
    pub has_repeat-parted : (xs : List Text) → IsFalse (has_repeat xs) → IsFalse (has_repeat (parted xs))
    has_repeat-parted xs h =
        let kept = λ (test : Text → Bool). has_repeat-filter test xs h in
        let others = has_repeat-append (filter q xs) (filter passes_neither xs) (kept q) (kept passes_neither) (λ name. is_among-third_part name xs) in
        has_repeat-append (filter p xs) (filter q xs ++ filter passes_neither xs) (kept p) others (λ name. is_among-other_parts name xs)

-- ---- a list in the order of another

-- the names of a list that are among the elements, in their order, and then its other names by bytes
abbrev pub ordered_by : List Text → List Text → List Text
ordered_by elements names = filter (λ name. is_among name names) elements ++ ascending_by (λ name. name) (filter (λ name. not (is_among name elements)) names)

-- a known name or one that is not
in_or_out : (a k : Bool) → ((a && k) || (not k && a)) ≡ a
in_or_out true true = refl
in_or_out true false = refl
in_or_out false true = refl
in_or_out false false = refl

-- those are the names of the list
pub is_among-ordered_by : (name : Text) (elements names : List Text) → is_among name (ordered_by elements names) ≡ is_among name names
is_among-ordered_by name elements names =
    simp (is_among-append, is_among-ascending_by, is_among-filter) (in_or_out (is_among name names) (is_among name elements))

-- what is there by the order of the elements is not among the other names
is_among-other :
    (name : Text) (elements names : List Text)
    → IsTrue (is_among name (filter (λ n. is_among n names) elements))
    → IsFalse (is_among name (ascending_by (λ n. n) (filter (λ n. not (is_among n elements)) names)))
is_among-other name elements names h =
    let found = sym (is_among-filter name (λ n. is_among n names) elements) ∙ h in
    let known : IsTrue (is_among name elements) = (and_parts (is_among name names) (is_among name elements) found).1 in
    let other : List Text = filter (λ n. not (is_among n elements)) names in
    is_among-ascending_by name other ∙ fails_filter name (λ n. not (is_among n elements)) names (not_from_true (is_among name elements) known)

-- none is there twice, where no element is
pub has_repeat-ordered_by : (elements names : List Text) → IsFalse (has_repeat elements) → IsFalse (has_repeat (ordered_by elements names))
has_repeat-ordered_by elements names h =
    let known : List Text = filter (λ name. is_among name names) elements in
    let other : List Text = filter (λ name. not (is_among name elements)) names in
    let known_once : IsFalse (has_repeat known) = has_repeat-filter (λ name. is_among name names) elements h in
    has_repeat-append known (ascending_by (λ name. name) other) known_once (has_repeat-ascending_by other) (λ name. is_among-other name elements names)
