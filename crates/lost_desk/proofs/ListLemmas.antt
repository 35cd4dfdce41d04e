-- Lists that begin with one another, and lists of one thing.
use Rattle.std.proofs.Common.{◌≡◌, ◌≤◌, List, [], ◌∷◌, ◌++◌, length, refl, ap, arith, replicate}
use Rattle.lost_spec.specs.Laws.{BeginsWith}

-- a list that begins with one as long is that one
pub begins_whole : {A : Type 0} (xs ys : List A) → BeginsWith ys xs → length ys ≤ length xs → ys ≡ xs
begins_whole [] [] b le = refl
begins_whole [] (y ∷ ys) b le = absurd (omega arith)
begins_whole (x ∷ xs) [] b le = absurd (cc (b.1))
begins_whole (x ∷ xs) (y ∷ ys) b le = let rest = begins_whole xs ys (b.0, cc (b.1)) (omega arith) in cc (b.1, rest)

-- one more of the same thing
pub replicate_push : {A : Type 0} (xs : List A) (x e : A) → xs ≡ replicate (length xs) e → x ≡ e → xs ++ x ∷ [] ≡ replicate (length (xs ++ x ∷ [])) e
replicate_push [] x e same is = ap (λ y. y ∷ []) is
replicate_push (y ∷ xs) x e same is =
    let head : y ≡ e = cc same in
    let rest : xs ≡ replicate (length xs) e = cc same in
    cc (head, replicate_push xs x e rest is)
