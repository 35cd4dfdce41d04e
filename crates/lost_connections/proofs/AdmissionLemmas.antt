-- Lemmas on the connections that are open.
use Rattle.std.proofs.Common.{◌≡◌, ◌<◌, ◌≤◌, ℕ, ◌+◌, ◌-◌, Bool, cond, List, [], ◌∷◌, Option, Some, Result, Ok, Err, IfOk, OnErr, All, refl, sym, ap, subst, ◌∙◌, arith}
use Rattle.std.proofs.lemmas.List.Elements.{All-head}
use Rattle.std.proofs.lemmas.Map.Views.{All-values-PutsEntry, All-map-remove_entry, All-map-IsPermutation}
use Rattle.std.specs.Cmp.{IsEquivalence}
use Rattle.std.specs.HashMap.{HashMap, values, PutsEntry, IsUnchanged}
use Rattle.std.specs.List.Sorted.{IsPermutation}
use Rattle.std.specs.Map.{values_of, lookup, count_at, remove_entry}
use Rattle.std.specs.declared.cmp.PartialEq as equal
use Rattle.std.specs.declared.hash.Hash as hashed
use Rattle.lost_connections.specs.declared.admission.Admission.{Admission}
use Rattle.lost_connections.specs.Admission.{open_all, open_from, most_of_one, counted, one_at, Step, Entered, Left, entered, left, GoesBy, IsEmptyOnceAllLeft}

-- no count is 0
abbrev pub AreSome : List ℕ → Type 0
AreSome counts = All (λ n. 0 < n) counts

pub some_put : {A S F : Type 0} (eq : A → A → Bool) (m n : HashMap A ℕ S) (k : A) (v : ℕ) (r : Result (Option ℕ) F)
    → IfOk r (PutsEntry eq m n k v) → OnErr r (IsUnchanged m n) → AreSome (values m) → 0 < v → AreSome (values n)
some_put eq m n k v (Ok old) puts same h some = All-values-PutsEntry eq (λ x. 0 < x) m n k v old puts h some
some_put eq m n k v (Err e) puts same h some = subst (λ es. AreSome (values_of es)) (sym same) h

pub some_removed : {A S : Type 0} (test : A → Bool) (m n : HashMap A ℕ S) → IsPermutation (remove_entry test m.entries) n.entries → AreSome (values m) → AreSome (values n)
some_removed test m n same h =
    All-map-IsPermutation (λ e. e.1) (λ x. 0 < x) (remove_entry test m.entries) n.entries same (All-map-remove_entry test (λ e. e.1) (λ x. 0 < x) m.entries h)

-- where nothing is counted at any key, there is no entry
none_kept : {A : Type 0} (eq : A → A → Bool) → IsEquivalence eq → (es : List (A × ℕ)) → AreSome (values_of es) → ((q : A) → count_at (λ k. lookup (eq k) es) q ≡ 0) → es ≡ []
none_kept eq laws [] h none = refl
none_kept {A} eq laws (e ∷ es) h none =
    let first : 0 < e.1 = All-head (λ n. 0 < n) e.1 (values_of es) h in
    let found : count_at (λ k. lookup (eq k) (e ∷ es)) e.0 ≡ e.1 = ap (λ (b : Bool). count_at {K = A} (λ k. cond b (Some e.1) (lookup (eq k) es)) e.0) (laws.refl e.0) in
    absurd (omega (arith, first, found, none e.0))

module _ {A : Type 0} {E : equal.Ghosts A} {H : hashed.Ghosts A} where
  -- what is open at the end, and what left, is what was open and what entered: in all
  all_counted : (a b : Admission A E H) (steps : List (Step A)) → GoesBy a steps b → open_all b + left (λ address. 1) steps ≡ open_all a + entered (λ address. 1) steps
  all_counted a b [] goes = ap (λ (x : Admission A E H). open_all x + 0) goes
  all_counted a b (Entered address ∷ steps) (next, enters, goes) = omega (arith, enters.all, all_counted next b steps goes)
  all_counted a b (Left address ∷ steps) (next, is, leaves, goes) = omega (arith, is.all, leaves.all, all_counted next b steps goes)

  -- and from each address
  from_counted : (most : Option ℕ) (other : A) (a b : Admission A E H) (steps : List (Step A)) → most_of_one a ≡ most → GoesBy a steps b
      → open_from b other + left (λ address. one_at E.eq (counted most address) other) steps ≡ open_from a other + entered (λ address. one_at E.eq (counted most address) other) steps
  from_counted most other a b [] same goes = ap (λ (x : Admission A E H). open_from x other + 0) goes
  from_counted most other a b (Entered address ∷ steps) same (next, enters, goes) =
      let on = from_counted most other next b steps (enters.most_of_address ∙ same) goes in
      let here = subst (λ (m : Option ℕ). open_from next other ≡ open_from a other + one_at E.eq (counted m address) other) same (enters.from other) in
      omega (arith, here, on)
  from_counted most other a b (Left address ∷ steps) same (next, is, leaves, goes) =
      let on = from_counted most other next b steps (leaves.most_of_address ∙ same) goes in
      let here = subst (λ (m : Option ℕ). open_from next other ≡ open_from a other - one_at E.eq (counted m address) other) same (leaves.from other) in
      let some = subst (λ (m : Option ℕ). one_at E.eq (counted m address) other ≤ open_from a other) same (is.from other) in
      omega (arith, here, on, some)

  pub all_have_left : IsEquivalence E.eq → (a b : Admission A E H) → IsEmptyOnceAllLeft a b
  all_have_left laws a b steps empty goes have =
      let none : (other : A) → open_from b other ≡ 0 = λ other. omega (arith, from_counted (most_of_one a) other a b steps refl goes, empty.from other, have.from other) in
      record {
        all = omega (arith, all_counted a b steps goes, empty.all, have.all);
        from = none;
        forgotten = none_kept E.eq laws b.by_address.entries b.some none;
      }
