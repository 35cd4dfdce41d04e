-- The list of (number, regions) and its look-ups, after each change.
use Rattle.std.proofs.Common.{◌≡◌, ℕ, Bool, true, false, cond, Option, None, Some, is_some, List, [], ◌∷◌, ◌++◌, Contains, nat_eq, nat_cmp, refl, sym, ap, subst, suc, arith, ◌∙◌}
use Rattle.std.specs.BTreeMap.{is_at}
use Rattle.std.specs.Cmp.{nat_eq_equiv}
use Rattle.std.specs.Map.{lookup}
use Rattle.std.proofs.lemmas.Bool.{false≢true}
use Rattle.std.proofs.lemmas.Bool.Decides.{nat_tests}
use Rattle.std.proofs.lemmas.Map.Views.{Contains-from_lookup, IsSome-lookup_from_Contains}
use Rattle.lost_index.specs.Chunks.{AreRising}
use Rattle.lost_index.specs.Entries.{with_number, without, IsAbove, IsHeld}
use Rattle.lost_index.proofs.RisingLemmas.{Lacks, apart, equal_numbers, same_number, lacks_above, lookup_lacking, lookup_left, lookup_right}

-- the test of a map's key is that of numbers
pub at_same : (n k : ℕ) → is_at (nat_cmp n) k ≡ nat_eq n k
at_same n k = grind (arith, nat_tests)

pub contains_found : {R : Type 0} (n : ℕ) (rs : List R) (es : List (ℕ × List R)) → lookup (nat_eq n) es ≡ Some rs → Contains es (n, rs)
contains_found n rs es found = Contains-from_lookup equal_numbers n rs es found

some_same : {X : Type 0} (x y : X) → Some x ≡ Some y → x ≡ y
some_same x y same = cc

none_either : (X : Type 0) (b : Bool) → ◌≡◌ {A = Option X} None (cond b None None)
none_either X true = refl
none_either X false = refl

none_some : {X : Type 0} (x : X) → None ≡ Some x → ⊥
none_some x h = cc

module _ {X : Type 0} where
  -- a number above all is not held
  lacks_highest : (n : ℕ) (es : List (ℕ × X)) → IsAbove n es → Lacks n es
  lacks_highest n [] above = tt
  lacks_highest n (e ∷ es) above =
      (apart n e.0 (λ same. let less = above 0 e (omega arith) in omega (arith, less, same)), lacks_highest n es (λ k d within. above (suc k) d (omega (arith, within))))

  pub absent_above : (n : ℕ) (es : List (ℕ × X)) (rs : X) → IsAbove n es → lookup (nat_eq n) es ≡ Some rs → ⊥
  absent_above n es rs above found = none_some rs (sym (lookup_lacking n es (lacks_highest n es above)) ∙ found)

  -- a number that is held is found
  pub held_found : (n : ℕ) (es : List (ℕ × X)) → IsHeld n es → None ≡ lookup (nat_eq n) es → ⊥
  held_found n es held none = false≢true (ap is_some none ∙ IsSome-lookup_from_Contains nat_eq_equiv n es held)

  -- ---- a number is put behind all
  pub lookup_put : (n : ℕ) (v : X) (es : List (ℕ × X)) → IsAbove n es
      → (k : ℕ) → lookup (nat_eq k) (es ++ (n, v) ∷ []) ≡ cond (nat_eq n k) (Some v) (lookup (nat_eq k) es)
  lookup_put n v es above k = by (nat_eq n k) refl
    where
      by : (t : Bool) → nat_eq n k ≡ t → lookup (nat_eq k) (es ++ (n, v) ∷ []) ≡ cond t (Some v) (lookup (nat_eq k) es)
      by true is = subst (λ j. lookup (nat_eq j) (es ++ (n, v) ∷ []) ≡ Some v) (equal_numbers n k is)
          (lookup_left n es ((n, v) ∷ []) (lacks_highest n es above) ∙ rw (same_number n n refl) refl)
      by false is = lookup_right k es ((n, v) ∷ []) (apart k n (λ same. false≢true (sym is ∙ same_number n k same)), tt)

  -- ---- a number is taken out, or has another value
  lookup_cond : (p : ℕ → Bool) (b : Bool) (us vs : List (ℕ × X)) → lookup p (cond b us vs) ≡ cond b (lookup p us) (lookup p vs)
  lookup_cond p true us vs = refl
  lookup_cond p false us vs = refl

  taken_step : (b q t : Bool) (x : X) (l w : Option X) → (b ≡ true → q ≡ t) → (b ≡ false → q ≡ true → t ≡ false) → (b ≡ true → t ≡ true → l ≡ None)
      → w ≡ cond t None l → cond b l (cond q (Some x) w) ≡ cond t None (cond q (Some x) l)
  taken_step true true true x l w same other none rest = none refl refl
  taken_step true true false x l w same other none rest = absurd (false≢true (sym (same refl)))
  taken_step true false true x l w same other none rest = absurd (false≢true (same refl))
  taken_step true false false x l w same other none rest = refl
  taken_step false true true x l w same other none rest = absurd (false≢true (sym (other refl refl)))
  taken_step false true false x l w same other none rest = refl
  taken_step false false true x l w same other none rest = rest
  taken_step false false false x l w same other none rest = rest

  changed_step : (f : X → X) (b q t : Bool) (x v : X) (later l w : Option X) → (b ≡ true → q ≡ t) → (b ≡ false → q ≡ true → t ≡ false)
      → cond b (Some x) later ≡ Some v → (later ≡ Some v → w ≡ cond t (Some (f v)) l)
      → cond b (cond q (Some (f x)) l) (cond q (Some x) w) ≡ cond t (Some (f v)) (cond q (Some x) l)
  changed_step f true true true x v later l w same other found rest = ap (λ y. Some (f y)) (some_same x v found)
  changed_step f true true false x v later l w same other found rest = absurd (false≢true (sym (same refl)))
  changed_step f true false true x v later l w same other found rest = absurd (false≢true (same refl))
  changed_step f true false false x v later l w same other found rest = refl
  changed_step f false true true x v later l w same other found rest = absurd (false≢true (sym (other refl refl)))
  changed_step f false true false x v later l w same other found rest = refl
  changed_step f false false true x v later l w same other found rest = rest found
  changed_step f false false false x v later l w same other found rest = rest found

same_tests : (n m k : ℕ) → nat_eq n m ≡ true → nat_eq k m ≡ nat_eq n k
same_tests n m k here = by (nat_eq n k) refl
  where
    by : (t : Bool) → nat_eq n k ≡ t → nat_eq k m ≡ t
    by true is = same_number k m (sym (equal_numbers n m here) ∙ equal_numbers n k is)
    by false is = apart k m (λ same. false≢true (sym is ∙ same_number n k (same ∙ sym (equal_numbers n m here))))

other_test : (n m k : ℕ) → nat_eq n m ≡ false → nat_eq k m ≡ true → nat_eq n k ≡ false
other_test n m k apart_from here = apart n k (λ same. false≢true (sym apart_from ∙ same_number n m (sym (equal_numbers k m here) ∙ sym same)))

module _ {X : Type 0} (n k : ℕ) where
  none_left : (m : ℕ) (es : List (ℕ × X)) → Lacks m es → nat_eq n m ≡ true → nat_eq n k ≡ true → lookup (nat_eq k) es ≡ None
  none_left m es lacks here is = subst (λ j. lookup (nat_eq j) es ≡ None) (sym (equal_numbers n m here) ∙ equal_numbers n k is) (lookup_lacking m es lacks)

  pub lookup_without : (es : List (ℕ × X)) → AreRising es → lookup (nat_eq k) (without n es) ≡ cond (nat_eq n k) None (lookup (nat_eq k) es)
  lookup_without [] rising = none_either X (nat_eq n k)
  lookup_without (e ∷ es) rising =
      lookup_cond (nat_eq k) (nat_eq n e.0) es (e ∷ without n es)
      ∙ taken_step (nat_eq n e.0) (nat_eq k e.0) (nat_eq n k) e.1 (lookup (nat_eq k) es) (lookup (nat_eq k) (without n es))
      (same_tests n e.0 k) (other_test n e.0 k) (none_left e.0 es (lacks_above e.0 es rising.0)) (lookup_without es rising.1)

module _ {R : Type 0} (n k : ℕ) (change : List R → List R) (rs : List R) where
  pub lookup_with : (es : List (ℕ × List R)) → lookup (nat_eq n) es ≡ Some rs
      → lookup (nat_eq k) (with_number n change es) ≡ cond (nat_eq n k) (Some (change rs)) (lookup (nat_eq k) es)
  lookup_with [] found = absurd (none_some rs found)
  lookup_with (e ∷ es) found =
      lookup_cond (nat_eq k) (nat_eq n e.0) ((e.0, change e.1) ∷ es) (e ∷ with_number n change es)
      ∙ changed_step change (nat_eq n e.0) (nat_eq k e.0) (nat_eq n k) e.1 rs (lookup (nat_eq n) es) (lookup (nat_eq k) es) (lookup (nat_eq k) (with_number n change es))
      (same_tests n e.0 k) (other_test n e.0 k) found (lookup_with es)
