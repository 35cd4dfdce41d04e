-- Texts that are written piece by piece.
use Rattle.std.proofs.Common.{◌≡◌, ℕ, List, ◌++◌, ap, ◌∙◌, append_assoc}

-- a piece, and then another one
pub then_written : (text first second middle after : List ℕ) → middle ≡ text ++ first → after ≡ middle ++ second → after ≡ text ++ (first ++ second)
then_written text first second middle after one two = two ∙ ap (λ (t : List ℕ). t ++ second) one ∙ append_assoc text first second
