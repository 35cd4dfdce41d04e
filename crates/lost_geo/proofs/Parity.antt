-- Whether a number of edges is odd: of one edge more, of two lists together, and of a list reversed.
use Rattle.std.proofs.Common.{◌≡◌, refl, sym, ◌∙◌, ap, ℕ, ◌+◌, zero, suc, Bool, true, false, not, cond, List, ◌∷◌, ◌++◌, length, filter, length-append, zero-add}
use Rattle.std.proofs.Math.Nat.{suc-add}
use Rattle.std.proofs.lemmas.List.Elements.{filter-append}
use Rattle.lost_spec.specs.Ring.{Edge, is_odd}
use Rattle.lost_geo.specs.Laws.{is_just_one}

-- whether an odd number of edges passes the test
abbrev pub odd_count : (Edge → Bool) → List Edge → Bool
odd_count test es = is_odd (length (filter test es))

-- ---- one of two truths

pub just_one_of_false : (b : Bool) → is_just_one false b ≡ b
just_one_of_false true = refl
just_one_of_false false = refl

pub just_one_with_false : (b : Bool) → is_just_one b false ≡ b
just_one_with_false true = refl
just_one_with_false false = refl

pub just_one-not : (a b : Bool) → is_just_one (not a) b ≡ not (is_just_one a b)
just_one-not true true = refl
just_one-not true false = refl
just_one-not false true = refl
just_one-not false false = refl

just_one_of_true : (b : Bool) → not b ≡ is_just_one true b
just_one_of_true true = refl
just_one_of_true false = refl

pub just_one_assoc : (a b c : Bool) → is_just_one (is_just_one a b) c ≡ is_just_one a (is_just_one b c)
just_one_assoc true b c = rw (← just_one_of_true b, ← just_one_of_true (is_just_one b c)) (just_one-not b c)
just_one_assoc false b c = rw (just_one_of_false b, just_one_of_false (is_just_one b c)) refl

-- ---- counts

pub is_odd-add : (m n : ℕ) → is_odd (m + n) ≡ is_just_one (is_odd m) (is_odd n)
is_odd-add zero n = rw zero-add (sym (just_one_of_false (is_odd n)))
is_odd-add (suc m) n = rw suc-add (ap not (is_odd-add m n) ∙ sym (just_one-not (is_odd m) (is_odd n)))

pub odd_count-append : (test : Edge → Bool) (xs ys : List Edge) → odd_count test (xs ++ ys) ≡ is_just_one (odd_count test xs) (odd_count test ys)
odd_count-append test xs ys =
    rw (filter-append test xs ys, length-append (filter test xs) (filter test ys))
    (is_odd-add (length (filter test xs)) (length (filter test ys)))

counted : (passes : Bool) (e : Edge) (es : List Edge) → is_odd (length (cond passes (e ∷ es) es)) ≡ is_just_one passes (is_odd (length es))
counted true e es = just_one_of_true (is_odd (length es))
counted false e es = sym (just_one_of_false (is_odd (length es)))

pub odd_count-cons : (test : Edge → Bool) (e : Edge) (es : List Edge) → odd_count test (e ∷ es) ≡ is_just_one (test e) (odd_count test es)
odd_count-cons test e es = counted (test e) e (filter test es)
