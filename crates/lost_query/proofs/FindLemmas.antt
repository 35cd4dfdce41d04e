-- Searches of lists of converted things.
use Rattle.std.specs.Prelude.{◌≡◌, Bool, true, false, cond, List, [], ◌∷◌, map, Some, option_map, find}
use Rattle.std.proofs.Common.{refl}

-- the first converted thing that passes is that of the first thing whose conversion passes
pub find-map : {A B : Type 0} (f : A → B) (p : B → Bool) (xs : List A) → option_map f (find (λ x. p (f x)) xs) ≡ find p (map f xs)
find-map f p [] = refl
find-map f p (x ∷ xs) =
    elim (p (f x)) as (λ b. option_map f (cond b (Some x) (find (λ y. p (f y)) xs)) ≡ cond b (Some (f x)) (find p (map f xs))) [
      | true ↦ refl
      | false ↦ find-map f p xs
    ]
