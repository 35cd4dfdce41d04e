-- The order of texts, and things put in the order of their texts by `ascending_by`.
use Rattle.std.specs.Prelude.{◌≡◌, IsTrue, IsFalse, cond, List, [], ◌∷◌}
use Rattle.std.specs.List.{AllByRecursion}
use Rattle.std.specs.Ordering.{nat_cmp, is_eq, is_lt, ordering_reverse}
use Rattle.std.specs.Cmp.Lexicographic.{slice_cmp, nat_list_cmp_total, texts_ties, bytes_decides}
use Rattle.std.proofs.Common.{Ordering, Less, Equal, Greater, refl, sym, ap, ◌∙◌}
use Rattle.std.proofs.lemmas.Bool.{cond_both, false≢true, true≢false, false_from_ne_true}
use Rattle.std.proofs.lemmas.Cmp.{tied_itself}
use Rattle.lost_spec.proofs.ListLemmas.{AllByRecursion-weaker}
use Rattle.lost_spec.specs.Text.{Text, is_before, same_text, insert_by, ascending_by}
use Rattle.lost_spec.specs.Laws.{EachWithLater}

-- ---- the order of texts

-- an answer that tests as less is `Less`
Less-is : (r : Ordering) → IsTrue (is_lt r) → r ≡ Less
Less-is Less h = refl
Less-is Equal h = absurd (false≢true h)
Less-is Greater h = absurd (false≢true h)

-- what is neither less nor equal is less the other way round
less_back : (r s : Ordering) → s ≡ ordering_reverse r → IsFalse (is_lt r) → IsFalse (is_eq r) → IsTrue (is_lt s)
less_back Less s e h k = absurd (true≢false h)
less_back Equal s e h k = absurd (true≢false k)
less_back Greater s e h k = ap is_lt e

-- a text before a text before a third is before the third
pub is_before-trans : (a b c : Text) → IsTrue (is_before a b) → IsTrue (is_before b c) → IsTrue (is_before a c)
is_before-trans a b c h k =
    ap is_lt (nat_list_cmp_total.trans a b c (Less-is (slice_cmp nat_cmp a b) h) (Less-is (slice_cmp nat_cmp b c) k))

-- no text is before itself
pub is_before-itself : (a : Text) → IsFalse (is_before a a)
is_before-itself a = ap is_lt (tied_itself nat_list_cmp_total a)

-- of two texts that are not the same, one is before the other
pub is_before-back : (a b : Text) → IsFalse (is_before a b) → IsFalse (same_text a b) → IsTrue (is_before b a)
is_before-back a b h k =
    less_back (slice_cmp nat_cmp a b) (slice_cmp nat_cmp b a) (nat_list_cmp_total.antisymm b a) h (sym (texts_ties a b) ∙ k)

-- texts that test as the same are one
pub same_text-same : (a b : Text) → IsTrue (same_text a b) → a ≡ b
same_text-same a b h = (bytes_decides a b).0 h

-- a text is the same as itself
pub same_text-itself : (a : Text) → IsTrue (same_text a a)
same_text-itself a = (bytes_decides a a).1 refl

-- a text before another is not the same
pub same_text-before : (a b : Text) → IsTrue (is_before a b) → IsFalse (same_text a b)
same_text-before a b h =
    false_from_ne_true (same_text a b) (λ e. true≢false (sym h ∙ ap (λ c. is_before a c) (sym (same_text-same a b e)) ∙ is_before-itself a))

-- ---- facts of all things

-- ---- things in order

module _ {Thing : Type 0} (text_of : Thing → Text) where
  -- x put into a list with a first thing y: x is first, or y has its text, or x is put in further on
  pub by_insert_by :
      (P : List Thing → Type 0) (x y : Thing) (ys : List Thing)
      → (IsTrue (is_before (text_of x) (text_of y)) → P (x ∷ y ∷ ys))
      → (IsTrue (same_text (text_of x) (text_of y)) → P (y ∷ ys))
      → (IsTrue (is_before (text_of y) (text_of x)) → P (y ∷ insert_by text_of x ys))
      → P (insert_by text_of x (y ∷ ys))
  by_insert_by P x y ys first same later =
      cond_both (is_before (text_of x) (text_of y)) (x ∷ y ∷ ys) (cond (same_text (text_of x) (text_of y)) (y ∷ ys) (y ∷ insert_by text_of x ys)) P first
      (λ e. cond_both (same_text (text_of x) (text_of y)) (y ∷ ys) (y ∷ insert_by text_of x ys) P same
      (λ k. later (is_before-back (text_of x) (text_of y) e k)))

  -- what holds of a thing and of all things of a list holds of all when the thing is put in
  pub AllByRecursion-insert_by : (P : Thing → Type 0) (x : Thing) (xs : List Thing) → P x → AllByRecursion P xs → AllByRecursion P (insert_by text_of x xs)
  AllByRecursion-insert_by P x [] p h = (p, tt)
  AllByRecursion-insert_by P x (y ∷ ys) p h =
      by_insert_by (AllByRecursion P) x y ys (λ _. (p, h)) (λ _. h) (λ _. (h.0, AllByRecursion-insert_by P x ys p h.1))

  -- what holds of all things of a list holds of all when they are in order
  pub AllByRecursion-ascending_by : (P : Thing → Type 0) (xs : List Thing) → AllByRecursion P xs → AllByRecursion P (ascending_by text_of xs)
  AllByRecursion-ascending_by P [] h = tt
  AllByRecursion-ascending_by P (x ∷ xs) h = AllByRecursion-insert_by P x (ascending_by text_of xs) h.0 (AllByRecursion-ascending_by P xs h.1)

  -- the text of the one is before that of the other
  abbrev pub Precedes : Thing → Thing → Type 0
  Precedes x y = IsTrue (is_before (text_of x) (text_of y))

  -- a thing that precedes another precedes all that this one precedes
  Precedes-later : (x y : Thing) (zs : List Thing) → Precedes x y → AllByRecursion (Precedes y) zs → AllByRecursion (Precedes x) zs
  Precedes-later x y zs h = AllByRecursion-weaker (Precedes y) (Precedes x) (λ z. is_before-trans (text_of x) (text_of y) (text_of z) h) zs

  -- things in order stay in order when a thing is put in
  pub EachWithLater-insert_by : (x : Thing) (xs : List Thing) → EachWithLater Precedes xs → EachWithLater Precedes (insert_by text_of x xs)
  EachWithLater-insert_by x [] h = (tt, tt)
  EachWithLater-insert_by x (y ∷ ys) h =
      by_insert_by (EachWithLater Precedes) x y ys
      (λ e. ((e, Precedes-later x y ys e h.0), h))
      (λ _. h)
      (λ e. (AllByRecursion-insert_by (Precedes y) x ys e h.0, EachWithLater-insert_by x ys h.1))

  -- what `ascending_by` gives is in order
  pub EachWithLater-ascending_by : (xs : List Thing) → EachWithLater Precedes (ascending_by text_of xs)
  EachWithLater-ascending_by [] = tt
  EachWithLater-ascending_by (x ∷ xs) = EachWithLater-insert_by x (ascending_by text_of xs) (EachWithLater-ascending_by xs)
