-- What a filter keeps of a list up to the next element.
use Rattle.std.proofs.Common.{◌≡◌, ℕ, ◌+◌, ◌<◌, Bool, true, false, cond, List, [], ◌∷◌, ◌++◌, length, take, map, filter, get_or, sym, ap, append_assoc, ◌∙◌}
use Rattle.std.proofs.lemmas.List.{take_more, append-nil, map-append}
use Rattle.std.proofs.lemmas.List.Elements.{filter-append}

filter-next : {X : Type 0} (p : X → Bool) (xs : List X) (i : ℕ) (d : X) → i < length xs
    → filter p (take (i + 1) xs) ≡ filter p (take i xs) ++ cond (p (get_or xs i d)) (get_or xs i d ∷ []) []
filter-next p xs i d within = ap (filter p) (take_more xs i d within) ∙ filter-append p (take i xs) (get_or xs i d ∷ [])

module _ {X Y : Type 0} (f : X → Y) (p : X → Bool) (before : List Y) (xs : List X) (i : ℕ) (x : X) (old : List Y) (within : i < length xs) (is : x ≡ get_or xs i x)
    (so_far : old ≡ before ++ map f (filter p (take i xs))) where
  next : (b : Bool) → p x ≡ b → filter p (take (i + 1) xs) ≡ filter p (take i xs) ++ cond b (x ∷ []) []
  next b tested =
      filter-next p xs i x within ∙ ap (λ y. filter p (take i xs) ++ cond (p y) (y ∷ []) []) (sym is) ∙ ap (λ b. filter p (take i xs) ++ cond b (x ∷ []) []) tested

  -- an element that passes is kept
  pub kept-next : p x ≡ true → (new : List Y) → new ≡ old ++ f x ∷ [] → new ≡ before ++ map f (filter p (take (i + 1) xs))
  kept-next passes new added =
      added ∙ ap (λ l. l ++ f x ∷ []) so_far ∙ append_assoc before (map f (filter p (take i xs))) (f x ∷ [])
      ∙ ap (λ l. before ++ l) (sym (ap (map f) (next true passes) ∙ map-append f (filter p (take i xs)) (x ∷ [])))

  -- one that fails is not
  pub passed-over : p x ≡ false → old ≡ before ++ map f (filter p (take (i + 1) xs))
  passed-over fails = so_far ∙ ap (λ l. before ++ map f l) (sym (next false fails ∙ append-nil (filter p (take i xs))))
