-- A part of a list, as what is left of it where its front goes behind it.
use Rattle.std.proofs.Common.{◌≡◌, ℕ, ◌≤◌, ◌-◌, ◌+◌, List, ◌++◌, Contains, length, take, drop, arith, ◌∙◌, ap, subst}
use Rattle.std.proofs.lemmas.List.Elements.{Contains-append_left, Contains-append_right}
use Rattle.std.specs.List.{slice_range}
use Rattle.std.proofs.lemmas.List.{take-append-drop, take-append-le, drop-take, take-take, length-take-le, length-drop}

-- the list with its front behind what follows, cut to the length of that
abbrev turned : {X : Type 0} → List X → ℕ → ℕ → ℕ → List X
turned xs from n to = take n (drop from (take to xs) ++ take from (take to xs))

turned-sum : {X : Type 0} (xs : List X) (from n : ℕ) → from + n ≤ length xs → turned xs from n (from + n) ≡ take n (drop from xs)
turned-sum xs from n within =
    let long : n ≤ length (drop from (take (from + n) xs)) =
    omega (arith, length-drop from (take (from + n) xs), length-take-le (from + n) xs within) in
    take-append-le n (drop from (take (from + n) xs)) (take from (take (from + n) xs)) long
    ∙ ap (take n) (drop-take from n xs)
    ∙ take-take n n (drop from xs) (omega arith)

-- cutting to a part: the end goes, the front goes behind, and then goes too
pub slice_range-turned : {X : Type 0} (xs : List X) (from to : ℕ) → from ≤ to → to ≤ length xs
    → take (to - from) (drop from (take to xs) ++ take from (take to xs)) ≡ slice_range xs from to
slice_range-turned xs from to in_order within =
    let sum : from + (to - from) ≡ to = omega arith in
    subst (λ n. turned xs from (to - from) n ≡ take (to - from) (drop from xs)) sum
    (turned-sum xs from (to - from) (omega arith))

-- what a part contains, the whole does
pub Contains-slice_range : {X : Type 0} (xs : List X) (from to : ℕ) (x : X) → Contains (slice_range xs from to) x → Contains xs x
Contains-slice_range xs from to x stands =
    subst (λ l. Contains l x) (take-append-drop from xs)
    (Contains-append_right (take from xs) (drop from xs) x
    (subst (λ l. Contains l x) (take-append-drop (to - from) (drop from xs))
    (Contains-append_left (take (to - from) (drop from xs)) (drop (to - from) (drop from xs)) x stands)))
