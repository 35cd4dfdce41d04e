-- Lists in order that have the same members are one list, in whatever order and however often things were put in.
use Rattle.std.proofs.Common.{◌≡◌, Bool, true, false, ◌||◌, IsTrue, List, [], ◌∷◌, map, refl, sym, ap, subst, ◌∙◌}
use Rattle.std.specs.List.{AllByRecursion}
use Rattle.std.proofs.lemmas.Bool.{false≢true, true≢false}
use Rattle.lost_spec.specs.Text.{Text, is_before, same_text, is_among, insert_by, ascending_by}
use Rattle.lost_spec.specs.Laws.{EachWithLater}
use Rattle.lost_spec.proofs.ListLemmas.{AllByRecursion-weaker}
use Rattle.lost_spec.proofs.OrderLemmas.{is_before-trans, is_before-back, same_text-same, same_text-itself, same_text-before, by_insert_by, Precedes, EachWithLater-ascending_by}

-- ---- texts in order

-- the one is before the other
abbrev Before : Text → Text → Type 0
Before a b = IsTrue (is_before a b)

-- no text is among those that it is before
not_among_later : (t : Text) (xs : List Text) → AllByRecursion (Before t) xs → is_among t xs ≡ false
not_among_later t [] all = refl
not_among_later t (x ∷ xs) all = ap (λ b. b || is_among t xs) (same_text-before t x all.0) ∙ not_among_later t xs all.1

-- so one that is before the first is not among them
first_not_among : (x y : Text) (ys : List Text) → Before x y → AllByRecursion (Before y) ys → is_among x (y ∷ ys) ≡ false
first_not_among x y ys h later = not_among_later x (y ∷ ys) (h, AllByRecursion-weaker (Before y) (Before x) (λ z. is_before-trans x y z h) ys later)

among_first : (x : Text) (xs : List Text) → is_among x (x ∷ xs) ≡ true
among_first x xs = ap (λ b. b || is_among x xs) (same_text-itself x)

-- where two lists with the same first text have the same members, so have their rests
same_rests : (x : Text) (xs ys : List Text) → AllByRecursion (Before x) xs → AllByRecursion (Before x) ys → ((t : Text) → is_among t (x ∷ xs) ≡ is_among t (x ∷ ys)) → (t : Text) → is_among t xs ≡ is_among t ys
same_rests x xs ys h k same t = by (same_text t x) refl
  where
    by : (b : Bool) → same_text t x ≡ b → is_among t xs ≡ is_among t ys
    by true e =
        let is : t ≡ x = same_text-same t x e in
        ap (λ u. is_among u xs) is ∙ not_among_later x xs h ∙ sym (ap (λ u. is_among u ys) is ∙ not_among_later x ys k)
    by false e = sym (ap (λ b. b || is_among t xs) e) ∙ same t ∙ ap (λ b. b || is_among t ys) e

-- texts in order that have the same members are one list
one_in_order : (xs ys : List Text) → EachWithLater Before xs → EachWithLater Before ys → ((t : Text) → is_among t xs ≡ is_among t ys) → xs ≡ ys
one_in_order [] [] h k same = refl
one_in_order [] (y ∷ ys) h k same = absurd (false≢true (same y ∙ among_first y ys))
one_in_order (x ∷ xs) [] h k same = absurd (true≢false (sym (among_first x xs) ∙ same x))
one_in_order (x ∷ xs) (y ∷ ys) h k same = by (is_before x y) (same_text x y) refl refl (one_in_order xs ys h.1 k.1)
  where
    by : (b s : Bool) → is_before x y ≡ b → same_text x y ≡ s → (((t : Text) → is_among t xs ≡ is_among t ys) → xs ≡ ys) → x ∷ xs ≡ y ∷ ys
    by true s e f rest = absurd (true≢false (sym (among_first x xs) ∙ same x ∙ first_not_among x y ys e k.0))
    by false false e f rest = absurd (false≢true (sym (first_not_among y x xs (is_before-back x y e f) h.0) ∙ same y ∙ among_first y ys))
    by false true e f rest =
        let is : x ≡ y = same_text-same x y f in
        let later = rest (same_rests y xs ys (subst (λ z. AllByRecursion (Before z) xs) is h.0) k.0 (λ t. ap (λ z. is_among t (z ∷ xs)) (sym is) ∙ same t)) in
        ap (λ z. z ∷ xs) is ∙ ap (λ zs. y ∷ zs) later

-- ---- things by their texts

twice : (a b : Bool) → (a || b) ≡ (a || (a || b))
twice true b = refl
twice false b = refl

swap : (a b c : Bool) → (a || (b || c)) ≡ (b || (a || c))
swap true true c = refl
swap true false c = refl
swap false true c = refl
swap false false c = refl

module _ {Thing : Type 0} (text_of : Thing → Text) where
  -- what is put in is among the rest
  among-insert_by : (t : Text) (x : Thing) (xs : List Thing) → is_among t (map text_of (insert_by text_of x xs)) ≡ (same_text t (text_of x) || is_among t (map text_of xs))
  among-insert_by t x [] = refl
  among-insert_by t x (y ∷ ys) =
      let old = same_text t (text_of y) || is_among t (map text_of ys) in
      by_insert_by text_of (λ zs. is_among t (map text_of zs) ≡ (same_text t (text_of x) || is_among t (map text_of (y ∷ ys)))) x y ys
      (λ _. refl)
      (λ same. twice (same_text t (text_of y)) (is_among t (map text_of ys)) ∙ ap (λ u. same_text t u || old) (sym (same_text-same (text_of x) (text_of y) same)))
      (λ _. ap (λ b. same_text t (text_of y) || b) (among-insert_by t x ys) ∙ swap (same_text t (text_of y)) (same_text t (text_of x)) (is_among t (map text_of ys)))

  among-ascending_by : (t : Text) (xs : List Thing) → is_among t (map text_of (ascending_by text_of xs)) ≡ is_among t (map text_of xs)
  among-ascending_by t [] = refl
  among-ascending_by t (x ∷ xs) = among-insert_by t x (ascending_by text_of xs) ∙ ap (λ b. same_text t (text_of x) || b) (among-ascending_by t xs)

  -- things in order have texts in order
  all_before : (x : Thing) (ys : List Thing) → AllByRecursion (Precedes text_of x) ys → AllByRecursion (Before (text_of x)) (map text_of ys)
  all_before x [] all = tt
  all_before x (y ∷ ys) all = (all.0, all_before x ys all.1)

  texts_in_order : (xs : List Thing) → EachWithLater (Precedes text_of) xs → EachWithLater Before (map text_of xs)
  texts_in_order [] h = tt
  texts_in_order (x ∷ xs) h = (all_before x xs h.0, texts_in_order xs h.1)

  -- so lists whose texts have the same members have the same texts in order
  pub ascending_by-same : (xs ys : List Thing) → ((t : Text) → is_among t (map text_of xs) ≡ is_among t (map text_of ys)) → map text_of (ascending_by text_of xs) ≡ map text_of (ascending_by text_of ys)
  ascending_by-same xs ys same =
      one_in_order (map text_of (ascending_by text_of xs)) (map text_of (ascending_by text_of ys))
      (texts_in_order (ascending_by text_of xs) (EachWithLater-ascending_by text_of xs))
      (texts_in_order (ascending_by text_of ys) (EachWithLater-ascending_by text_of ys))
      (λ t. among-ascending_by t xs ∙ same t ∙ sym (among-ascending_by t ys))
