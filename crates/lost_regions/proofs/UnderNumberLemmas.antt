-- A number that is held once: what its list is after each change.
use Rattle.std.proofs.Common.{◌≡◌, ℕ, zero, suc, ◌+◌, ◌-◌, ◌<◌, ◌≤◌, ◌⊎◌, inl, inr, true, false, List, [], ◌∷◌, ◌++◌, Contains, length, nat_eq, refl, sym, ap, subst, arith, ◌∙◌}
use Rattle.std.specs.List.{slice_range, slice_index_or}
use Rattle.std.proofs.lemmas.Bool.{false≢true}
use Rattle.std.proofs.lemmas.Bool.Decides.{nat_tests}
use Rattle.std.proofs.lemmas.List.{map-append, append-nil, take_all}
use Rattle.std.proofs.Math.Seq.{take-append_seam, drop-append_seam}
use Rattle.std.proofs.lemmas.List.Elements.{Contains-append_right, Contains-append_cases}
use Rattle.lost_index.specs.Entries.{IsAbove, IsHeld, HasRegions, numbers, with_number, without}
use Rattle.lost_regions.specs.UnderNumber.{IsAbsent, IsHeldWith}

itself : (n : ℕ) → nat_eq n n ≡ true
itself n = search (arith, nat_tests)

apart : (n k : ℕ) → k < n → nat_eq n k ≡ false
apart n k below = search (arith, nat_tests)

module _ {R : Type 0} where
  -- ---- lists that are split at the number

  with_number-split : (n : ℕ) (change : List R → List R) (before behind : List (ℕ × List R)) (rs : List R) → IsAbsent n before
      → with_number n change (before ++ (n, rs) ∷ behind) ≡ before ++ (n, change rs) ∷ behind
  with_number-split n change [] behind rs absent = rw (itself n) refl
  with_number-split n change (e ∷ before) behind rs absent =
      rw absent.0 (ap (λ l. e ∷ l) (with_number-split n change before behind rs absent.1))

  without-split : (n : ℕ) (before behind : List (ℕ × List R)) (rs : List R) → IsAbsent n before
      → without n (before ++ (n, rs) ∷ behind) ≡ before ++ behind
  without-split n [] behind rs absent = rw (itself n) refl
  without-split n (e ∷ before) behind rs absent =
      rw absent.0 (ap (λ l. e ∷ l) (without-split n before behind rs absent.1))

  absent_above : (n : ℕ) (held : List (ℕ × List R)) → IsAbove n held → IsAbsent n held
  absent_above n [] above = tt
  absent_above n (e ∷ held) above =
      (apart n e.0 (above 0 e (omega arith)), absent_above n held (λ k d within. above (suc k) d (omega arith)))

  absent_not : (n : ℕ) (held : List (ℕ × List R)) (rs : List R) (k : ℕ) → IsAbsent n held → k < length held
      → slice_index_or held k (n, rs) ≡ (n, rs) → ⊥
  absent_not n [] rs k absent within is = omega arith
  absent_not n (e ∷ held) rs zero absent within is = false≢true (sym absent.0 ∙ ap (λ x. nat_eq n x.0) is ∙ itself n)
  absent_not n (e ∷ held) rs (suc k) absent within is = absent_not n held rs k absent.1 (omega arith) is

  same_regions : (x y : ℕ × List R) → x ≡ y → y.1 ≡ x.1
  same_regions x y is = sym (ap (λ e. e.1) is)

  only_at : (n : ℕ) (rs ss : List R) (behind : List (ℕ × List R)) (k : ℕ) → IsAbsent n behind → k < length ((n, rs) ∷ behind)
      → slice_index_or ((n, rs) ∷ behind) k (n, ss) ≡ (n, ss) → ss ≡ rs
  only_at n rs ss behind zero absent within is = same_regions (n, rs) (n, ss) is
  only_at n rs ss behind (suc k) absent within is = absurd (absent_not n behind ss k absent (omega arith) is)

  only_in : (n : ℕ) (rs ss : List R) (before behind : List (ℕ × List R)) → IsAbsent n before → IsAbsent n behind
      → Contains before (n, ss) ⊎ Contains ((n, rs) ∷ behind) (n, ss) → ss ≡ rs
  only_in n rs ss before behind not_before not_behind (inl stands) = absurd (absent_not n before ss stands.0 not_before stands.1 stands.2)
  only_in n rs ss before behind not_before not_behind (inr stands) = only_at n rs ss behind stands.0 not_behind stands.1 stands.2

  -- ---- a number that is held with regions

  pub is_held : (n : ℕ) (rs : List R) (held : List (ℕ × List R)) → IsHeldWith n rs held → IsHeld n held
  is_held n rs held h =
      subst (λ ns. Contains ns n) (sym (ap numbers h.split ∙ map-append (λ e. e.0) h.before ((n, rs) ∷ h.behind)))
      (Contains-append_right (numbers h.before) (n ∷ numbers h.behind) n (0, omega arith, refl))

  pub has_regions : (n count : ℕ) (rs : List R) (held : List (ℕ × List R)) → IsHeldWith n rs held → count ≤ length rs → HasRegions count n held
  has_regions n count rs held h enough ss stands =
      let is = only_in n rs ss h.before h.behind h.not_before h.not_behind
      (Contains-append_cases h.before ((n, rs) ∷ h.behind) (n, ss) (subst (λ l. Contains l (n, ss)) h.split stands)) in
      subst (λ l. count ≤ length l) (sym is) enough

  pub changed : (n : ℕ) (change : List R → List R) (rs : List R) (held : List (ℕ × List R)) (h : IsHeldWith n rs held)
      → with_number n change held ≡ h.before ++ (n, change rs) ∷ h.behind
  changed n change rs held h = ap (with_number n change) h.split ∙ with_number-split n change h.before h.behind rs h.not_before

  pub held_changed : (n : ℕ) (change : List R → List R) (rs : List R) (held : List (ℕ × List R)) → IsHeldWith n rs held
      → IsHeldWith n (change rs) (with_number n change held)
  held_changed n change rs held h = record {
    before = h.before;
    behind = h.behind;
    split = changed n change rs held h;
    not_before = h.not_before;
    not_behind = h.not_behind;
  }

  -- changes that give the number the same regions are one
  pub same_change : (n : ℕ) (change other : List R → List R) (rs : List R) (held : List (ℕ × List R)) → IsHeldWith n rs held
      → change rs ≡ other rs → with_number n change held ≡ with_number n other held
  same_change n change other rs held h same =
      changed n change rs held h ∙ ap (λ l. h.before ++ (n, l) ∷ h.behind) same ∙ sym (changed n other rs held h)

  -- the last of two changes decides, where it does not ask what was there
  pub last_change : (n : ℕ) (change : List R → List R) (last rs : List R) (held : List (ℕ × List R)) → IsHeldWith n rs held
      → with_number n (λ _. last) (with_number n change held) ≡ with_number n (λ _. last) held
  unfolding held_changed
  last_change n change last rs held h =
      changed n (λ _. last) (change rs) (with_number n change held) (held_changed n change rs held h) ∙ sym (changed n (λ _. last) rs held h)

  -- a number that gets the regions that it had
  pub change_undone : (n : ℕ) (change : List R → List R) (rs : List R) (held : List (ℕ × List R)) → IsHeldWith n rs held
      → with_number n (λ _. rs) (with_number n change held) ≡ held
  change_undone n change rs held h = last_change n change rs rs held h ∙ changed n (λ _. rs) rs held h ∙ sym h.split

  pub removed : (n : ℕ) (rs : List R) (held : List (ℕ × List R)) (h : IsHeldWith n rs held) → without n held ≡ h.before ++ h.behind
  removed n rs held h = ap (without n) h.split ∙ without-split n h.before h.behind rs h.not_before

  -- a number that was put behind all
  pub put_last : (n : ℕ) (rs : List R) (held : List (ℕ × List R)) → IsAbove n held → IsHeldWith n rs (held ++ (n, rs) ∷ [])
  put_last n rs held above = record { before = held; behind = []; split = refl; not_before = absent_above n held above; not_behind = tt }

  pub is_put : (n : ℕ) (rs : List R) (held now : List (ℕ × List R)) → IsAbove n held → now ≡ held ++ (n, rs) ∷ [] → IsHeld n now
  is_put n rs held now above put = subst (IsHeld n) (sym put) (is_held n rs (held ++ (n, rs) ∷ []) (put_last n rs held above))

  pub put_undone : (n : ℕ) (rs : List R) (held now : List (ℕ × List R)) → IsAbove n held → now ≡ held ++ (n, rs) ∷ [] → without n now ≡ held
  put_undone n rs held now above put = ap (without n) put ∙ without-split n held [] rs (absent_above n held above) ∙ append-nil held

  -- a number that got more regions
  pub grown : (n : ℕ) (old more first rest : List R) (held now : List (ℕ × List R)) → IsHeldWith n old held
      → now ≡ with_number n (λ l. l ++ more) held → first ≡ old → rest ≡ more → IsHeldWith n (first ++ rest) now
  grown n old more first rest held now h is front back =
      subst (λ l. IsHeldWith n l now) (sym (ap (λ l. l ++ rest) front ∙ ap (λ l. old ++ l) back))
      (subst (IsHeldWith n (old ++ more)) (sym is) (held_changed n (λ l. l ++ more) old held h))

  pub growth_undone : (n : ℕ) (old more first : List R) (held now : List (ℕ × List R)) → IsHeldWith n old held
      → now ≡ with_number n (λ l. l ++ more) held → first ≡ old → with_number n (λ _. first) now ≡ held
  growth_undone n old more first held now h is front =
      ap (λ l. with_number n (λ _. l) now) front ∙ ap (with_number n (λ _. old)) is ∙ change_undone n (λ l. l ++ more) old held h

-- ---- parts of a list

pub first_part : {X : Type 0} (first rest : List X) → slice_range (first ++ rest) 0 (length first) ≡ first
first_part first rest = let count : length first - 0 ≡ length first = omega arith in rw count (take-append_seam first rest)

pub rest_part : {X : Type 0} (first rest : List X) → slice_range (first ++ rest) (length first) (length first + length rest) ≡ rest
rest_part first rest =
    let count : length first + length rest - length first ≡ length rest = omega arith in
    rw (count, drop-append_seam first rest) (take_all (length rest) rest (omega arith))
