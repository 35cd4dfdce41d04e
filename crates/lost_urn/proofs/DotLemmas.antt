-- Splitting a text at its dots: after lowering it, at a dot in its midst, and after joining labels.
use Rattle.std.proofs.Common.{◌≡◌, ℕ, ◌<◌, true, false, cond, nat_eq, List, [], ◌∷◌, ◌++◌, map, length, refl, arith}
use Rattle.std.specs.List.{onto_first}
use Rattle.std.specs.Char.{to_ascii_lowercase}
use Rattle.std.proofs.lemmas.List.Splits.{length-slice_split}
use Rattle.std.proofs.lemmas.Bool.Decides.{nat_tests}
use Rattle.lost_spec.specs.Text.{Text, lowered}
use Rattle.lost_spec.specs.Service.{split_at_dots}

-- ---- lowering

dot-lowered : (b : ℕ) → nat_eq (to_ascii_lowercase b) 46 ≡ nat_eq b 46
dot-lowered b = grind (arith, nat_tests)

onto_first-lowered : (b : ℕ) (parts : List Text) → onto_first (to_ascii_lowercase b) (map lowered parts) ≡ map lowered (onto_first b parts)
onto_first-lowered b [] = refl
onto_first-lowered b (part ∷ parts) = refl

-- lowering moves no dot
pub split-lowered : (text : Text) → split_at_dots (lowered text) ≡ map lowered (split_at_dots text)
split-lowered [] = refl
split-lowered (b ∷ rest) =
    rw (dot-lowered b, split-lowered rest)
    (elim (nat_eq b 46) as (λ v. cond v ([] ∷ map lowered (split_at_dots rest)) (onto_first (to_ascii_lowercase b) (map lowered (split_at_dots rest))) ≡ map lowered (cond v ([] ∷ split_at_dots rest) (onto_first b (split_at_dots rest))))
    [ true ↦ refl | false ↦ onto_first-lowered b (split_at_dots rest) ])

-- ---- a dot in the midst

some_part : (text : Text) → 0 < length (split_at_dots text)
some_part text = omega (arith, length-slice_split (λ b. nat_eq b 46) text)

onto_first-append : (b : ℕ) (parts more : List Text) → 0 < length parts → onto_first b (parts ++ more) ≡ onto_first b parts ++ more
onto_first-append b [] more some = absurd (omega arith)
onto_first-append b (part ∷ parts) more some = refl

-- the parts before a dot, and then those after it
pub split-at_dot : (xs ys : Text) → split_at_dots (xs ++ 46 ∷ ys) ≡ split_at_dots xs ++ split_at_dots ys
split-at_dot [] ys = refl
split-at_dot (b ∷ xs) ys =
    rw (split-at_dot xs ys)
    (elim (nat_eq b 46) as (λ v. cond v ([] ∷ (split_at_dots xs ++ split_at_dots ys)) (onto_first b (split_at_dots xs ++ split_at_dots ys)) ≡ cond v ([] ∷ split_at_dots xs) (onto_first b (split_at_dots xs)) ++ split_at_dots ys)
    [ true ↦ refl | false ↦ onto_first-append b (split_at_dots xs) (split_at_dots ys) (some_part xs) ])
