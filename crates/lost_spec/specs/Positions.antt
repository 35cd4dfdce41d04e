-- Positions in a list: where the things stand that pass a test.
use Rattle.std.specs.Prelude.{ℕ, suc, Bool, cond, List, [], ◌∷◌}

-- the positions of the things that pass a test, where the first thing of the list stands at n
abbrev pub positions_from : {Thing : Type 0} → (Thing → Bool) → ℕ → List Thing → List ℕ
positions_from test n [] = []
positions_from test n (x ∷ xs) = cond (test x) (n ∷ positions_from test (suc n) xs) (positions_from test (suc n) xs)

-- the positions of the things that pass a test, from 0, rising (own)
abbrev pub positions : {Thing : Type 0} → (Thing → Bool) → List Thing → List ℕ
positions test xs = positions_from test 0 xs
