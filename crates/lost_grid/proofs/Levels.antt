-- The least level that passes a test.
use Rattle.std.proofs.Common.{◌≡◌, refl, sym, ap, ◌∙◌, ℕ, zero, suc, ◌+◌, ◌<◌, ◌≤◌, Bool, true, false, cond, Option, Some, None, inl, inr, arith}
use Rattle.std.proofs.lemmas.Bool.{cases_lt}
use Rattle.std.specs.List.{find, range_with_len}
use Rattle.std.specs.Option.{unwrap_or}

-- the first number of a stretch that passes
pub find-first : (test : ℕ → Bool) (low n i : ℕ) → low ≤ i → i < low + n → ((k : ℕ) → low ≤ k → k < i → test k ≡ false) → test i ≡ true →
    find test (range_with_len low n) ≡ Some i
find-first test low zero i from below fails passes = absurd (omega arith)
find-first test low (suc n) i from below fails passes =
    elim (cases_lt low i) [
      | inl after ↦
          ap (λ (b : Bool). cond b (Some low) (find test (range_with_len (low + 1) n))) (fails low (omega arith) after)
          ∙ find-first test (low + 1) n i (omega arith) (omega arith) (λ k from_k before. fails k (omega arith) before) passes
      | inr reached ↦
          let here : i ≡ low = omega arith in
          let passes_here : test low ≡ true = ap test (sym here) ∙ passes in
          ap (λ (b : Bool). cond b (Some low) (find test (range_with_len (low + 1) n))) passes_here ∙ ap Some (sym here)
    ]

pub find-none : (test : ℕ → Bool) (low n : ℕ) → ((k : ℕ) → low ≤ k → k < low + n → test k ≡ false) → find test (range_with_len low n) ≡ None
find-none test low zero fails = refl
find-none test low (suc n) fails =
    ap (λ (b : Bool). cond b (Some low) (find test (range_with_len (low + 1) n))) (fails low (omega arith) (omega arith))
    ∙ find-none test (low + 1) n (λ k from below. fails k (omega arith) (omega arith))

-- ---- the levels from 0 to 6

pub least_passes : (test : ℕ → Bool) (i : ℕ) → i < 6 → ((k : ℕ) → k < i → test k ≡ false) → test i ≡ true →
    i ≡ unwrap_or (find test (range_with_len 0 7)) 6
least_passes test i below fails passes =
    ap (λ (found : Option ℕ). unwrap_or found 6) (sym (find-first test 0 7 i (omega arith) (omega arith) (λ k _ before. fails k before) passes))

last_by : (test : ℕ → Bool) (last : Bool) → test 6 ≡ last → ((k : ℕ) → k < 6 → test k ≡ false) → 6 ≡ unwrap_or (find test (range_with_len 0 7)) 6
last_by test true is fails =
    ap (λ (found : Option ℕ). unwrap_or found 6) (sym (find-first test 0 7 6 (omega arith) (omega arith) (λ k _ before. fails k before) is))
last_by test false is fails =
    ap (λ (found : Option ℕ). unwrap_or found 6)
    (sym (find-none test 0 7 (λ k _ before. elim (cases_lt k 6) [
      | inl lower ↦ fails k lower
      | inr reached ↦ let last : k ≡ 6 = omega arith in ap test last ∙ is
    ])))

pub last_left : (test : ℕ → Bool) (n : ℕ) → 6 ≤ n → ((k : ℕ) → k < n → test k ≡ false) → 6 ≡ unwrap_or (find test (range_with_len 0 7)) 6
last_left test n reached fails = last_by test (test 6) refl (λ k before. fails k (omega arith))
