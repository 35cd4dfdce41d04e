-- The keys of a cover, one by one.
use Rattle.std.proofs.Common.{◌≡◌, ℕ, zero, suc, ◌+◌, ◌<◌, List, [], ◌∷◌, ◌++◌, length, take, get_or, slice_get, Some, None, refl, ap, sym, ◌∙◌}
use Rattle.std.proofs.lemmas.List.{take_more}
use Rattle.std.proofs.lemmas.Option.{none-some, slice_get_within, get_or_from_slice_get}

-- a key that was found stands at its place
pub found_at : {X : Type 0} (xs : List X) (i : ℕ) (x : X) → Some x ≡ slice_get xs i → (i < length xs) × (x ≡ get_or xs i x)
found_at xs i x h = (slice_get_within xs i x (sym h), sym (get_or_from_slice_get xs i x x (sym h)))

-- it is the next one
pub take-next : {X : Type 0} (xs : List X) (i : ℕ) (x : X) → Some x ≡ slice_get xs i → take (i + 1) xs ≡ take i xs ++ x ∷ []
take-next xs i x h =
    let found = found_at xs i x h in
    take_more xs i x found.0 ∙ ap (λ y. take i xs ++ y ∷ []) (sym found.1)

-- where none is found, those before are all
pub take-to_end : {X : Type 0} (xs : List X) (i : ℕ) → None ≡ slice_get xs i → take i xs ≡ xs
take-to_end [] zero h = refl
take-to_end [] (suc i) h = refl
take-to_end (x ∷ xs) zero h = absurd (none-some x h)
take-to_end (x ∷ xs) (suc i) h = ap (λ rest. x ∷ rest) (take-to_end xs i h)
