-- The step that makes the history a given list keeps the rule.
use Rattle.std.proofs.Common.{◌≡◌, ℕ, ◌<◌, ◌==◌, Bool, true, false, List, [], ◌∷◌, ◌++◌, length, refl, ap, sym, ◌∙◌, subst, arith, inl, None}
use Rattle.std.proofs.lemmas.List.{append-nil}
use Rattle.std.proofs.lemmas.Bool.Decides.{nat_tests}
use mathlib.Core.List.{IsPrefix}
use prog.Atomic.{either}
use Rattle.logbook.specs.Pages.{Cell, cell, keeps, no_nib, step, Moves, Goes}
use Rattle.lost_spec.specs.Book.{Edit}
use Rattle.lost_spec.specs.Laws.{BeginsWith}
use Rattle.lost_history.specs.Rules.{IsCounted, reached, any_edit}
use Rattle.lost_history.proofs.Beginnings.{whole}

abbrev pub shown : List Edit → List Edit
shown log = []

abbrev pub moved : List Edit → List Edit → ℕ → Type 0
moved xs ys n = Unit {0}

module _ (list v : List Edit) (begins : BeginsWith list v) where
  pub reach_goes : (log : List Edit) → IsPrefix v log → (b : Bool) → (length log == length v) ≡ b
      → Goes IsCounted shown moved 0 (v, (no_nib, None)) (λ n. either (n == length v) (length list) n) (reached list (step 0 (length v) (length list) any_edit) (v, (no_nib, None))) ((length log, true) ∷ (0, true) ∷ (0, true) ∷ []) log
  reach_goes log pre true is =
      let same : length log ≡ length v = grind (arith, nat_tests) in
      let all : log ++ begins.0 ≡ list = ap (λ w. w ++ begins.0) (sym (whole v log pre same)) ∙ sym begins.1 in
      let n : either (length log == length v) (length list) (length log) ≡ length (log ++ begins.0) = rw is (ap length (sym all)) in
      (keeps, begins.0, None, tt, ap (λ (k : ℕ). (k, true) ∷ (0, true) ∷ (0, true) ∷ []) n, inl (refl, refl), (λ _. all, λ apart. absurd (apart same)))
  reach_goes log pre false is =
      let n : either (length log == length v) (length list) (length log) ≡ length (log ++ []) = rw is (ap length (sym (append-nil log))) in
      (keeps, [], None, tt, ap (λ (k : ℕ). (k, true) ∷ (0, true) ∷ (0, true) ∷ []) n, inl (refl, refl), (λ found. absurd (let same : (length log == length v) ≡ true = grind (arith, nat_tests) in cc (same, is)), λ _. ap length (append-nil log)))

  -- whatever the history is, the step makes it the list where it is as long as the front, and else leaves it
  pub reach_moves : Moves IsCounted shown moved 0 (v, (no_nib, None)) (λ n. either (n == length v) (length list) n) (reached list (step 0 (length v) (length list) any_edit) (v, (no_nib, None)))
  reach_moves cs log kept pre away =
      let P : List Cell → Type 0 = λ c. (0 < length c) × ((cell c 0).1 ≡ true) × Goes IsCounted shown moved 0 (v, (no_nib, None)) (λ n. either (n == length v) (length list) n) (reached list (step 0 (length v) (length list) any_edit) (v, (no_nib, None))) c log in
      subst P (sym kept) (omega arith, refl, reach_goes log pre (length log == length v) refl)
