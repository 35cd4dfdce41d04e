-- Beginnings of one list.
use Rattle.std.proofs.Common.{◌≡◌, ◌≤◌, Bool, if◌then◌else◌, true, false, List, [], ◌∷◌, ◌++◌, length, nat_le, refl, ap, sym, ◌∙◌, arith, append_assoc}
use Rattle.std.proofs.lemmas.List.{append-nil}
use Rattle.std.proofs.lemmas.Bool.Decides.{nat_tests}
use mathlib.Core.List.{IsPrefix}
use Rattle.lost_spec.specs.Laws.{BeginsWith}
use Rattle.lost_history.specs.History.{longer}

pub begins_itself : {A : Type 0} (xs : List A) → BeginsWith xs xs
begins_itself xs = ([], sym (append-nil xs))

pub begins_of_prefix : {A : Type 0} (xs ys : List A) → IsPrefix xs ys → BeginsWith ys xs
begins_of_prefix xs ys p = (p.0, sym p.1)

pub begins_trans : {A : Type 0} (xs ys zs : List A) → BeginsWith zs ys → BeginsWith ys xs → BeginsWith zs xs
begins_trans xs ys zs p q = (q.0 ++ p.0, p.1 ∙ (ap (λ w. w ++ p.0) q.1 ∙ append_assoc xs q.0 p.0))

-- of two beginnings of one list the shorter begins the longer
pub shorter_begins : {A : Type 0} (xs ys zs : List A) → IsPrefix xs zs → IsPrefix ys zs → length xs ≤ length ys → BeginsWith ys xs
shorter_begins [] ys zs p q le = (ys, refl)
shorter_begins (x ∷ xs) [] zs p q le = absurd (omega arith)
shorter_begins (x ∷ xs) (y ∷ ys) [] p q le = absurd (cc (p.1))
shorter_begins (x ∷ xs) (y ∷ ys) (z ∷ zs) p q le =
    let heads : x ≡ y = cc (p.1, q.1) in
    let rest = shorter_begins xs ys zs (p.0, cc (p.1)) (q.0, cc (q.1)) (omega arith) in
    (rest.0, cc (heads, rest.1))

-- a beginning as long as the whole is the whole
pub whole : {A : Type 0} (xs ys : List A) → IsPrefix xs ys → length ys ≡ length xs → xs ≡ ys
whole [] [] p le = refl
whole [] (y ∷ ys) p le = absurd (omega arith)
whole (x ∷ xs) [] p le = absurd (cc (p.1))
whole (x ∷ xs) (y ∷ ys) p le = let rest = whole xs ys (p.0, cc (p.1)) (omega arith) in cc (p.1, rest)

-- the longer of two beginnings of one list begins with both
pub longer_begins : {A : Type 0} (xs ys zs : List A) → IsPrefix xs zs → IsPrefix ys zs → BeginsWith (longer xs ys) xs × BeginsWith (longer xs ys) ys
longer_begins xs ys zs p q = by (nat_le (length ys) (length xs)) refl
  where
    by : (b : Bool) → nat_le (length ys) (length xs) ≡ b → BeginsWith (if b then xs else ys) xs × BeginsWith (if b then xs else ys) ys
    by true is = (begins_itself xs, let le : length ys ≤ length xs = grind (arith, nat_tests) in shorter_begins ys xs zs q p le)
    by false is = (let le : length xs ≤ length ys = grind (arith, nat_tests) in shorter_begins xs ys zs p q le, begins_itself ys)
