-- Lemmas on lists that go on at their end, and on counts from their front.
use Rattle.std.proofs.Common.{◌≡◌, ◌+◌, Bool, cond, List, [], ◌∷◌, sym, ap, ◌∙◌}
use Rattle.std.specs.List.{count_by, sum_by}
use Rattle.std.proofs.lemmas.List.Sums.{sum_by-append}

-- a test counts the first thing of a list, and the rest
pub count_by_front : {Thing : Type 0} (test : Thing → Bool) (x : Thing) (xs : List Thing) → count_by test (x ∷ xs) ≡ count_by test (x ∷ []) + count_by test xs
count_by_front test x xs = sum_by-append (λ y. cond (test y) 1 0) (x ∷ []) xs

-- two lists that are counted alike, pair by pair
pub count_by_alike : {A B : Type 0} (p : A → Bool) (q : B → Bool) (x : A) (y : B) (xs : List A) (ys : List B) → p x ≡ q y → count_by p xs ≡ count_by q ys → count_by p (x ∷ xs) ≡ count_by q (y ∷ ys)
count_by_alike p q x y xs ys here more =
    count_by_front p x xs ∙ ap (λ n. n + count_by p xs) (ap (λ b. 0 + cond b 1 0) here) ∙ ap (λ n. count_by q (y ∷ []) + n) more ∙ sym (count_by_front q y ys)
