-- How far a search has come for a thing of a list that passes a test.
use Rattle.std.proofs.Common.{◌≡◌, ℕ, ◌+◌, ◌<◌, ◌≤◌, Bool, true, false, ◌||◌, List, length, take, get_or, Some, sym, ap, ◌∙◌}
use Rattle.std.specs.List.{list_any, slice_get}
use Rattle.std.proofs.lemmas.Option.{get_or_from_slice_get}
use Rattle.std.proofs.lemmas.List.{take_all}
use Rattle.std.proofs.lemmas.List.Folds.{list_any_at, list_any_more}

module _ {Thing : Type 0} (test : Thing → Bool) (xs : List Thing) (i : ℕ) where
  module _ (x : Thing) (within : i < length xs) (there : slice_get xs i ≡ Some x) where
    -- the thing there passes
    pub some_at : test x ≡ true → list_any test xs ≡ true
    some_at passes = list_any_at test xs i x within (ap test (get_or_from_slice_get xs i x x there) ∙ passes)

    -- no thing before it passes, and it fails
    pub none_more : list_any test (take i xs) ≡ false → test x ≡ false → list_any test (take (i + 1) xs) ≡ false
    none_more none fails =
        list_any_more test xs i x within ∙ ap (λ b. b || test (get_or xs i x)) none ∙ ap test (get_or_from_slice_get xs i x x there) ∙ fails

  -- all things failed
  pub none_of_all : length xs ≤ i → list_any test (take i xs) ≡ false → list_any test xs ≡ false
  none_of_all past none = ap (list_any test) (sym (take_all i xs past)) ∙ none
