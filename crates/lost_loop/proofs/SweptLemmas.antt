-- A check of limits, key by key.
use Rattle.std.proofs.Common.{◌≡◌, ℕ, ◌+◌, ◌<◌, ◌≤◌, ◌⊎◌, inl, inr, Option, None, Some, IsSome, refl, sym, ap, ◌∙◌, arith}
use Rattle.std.proofs.lemmas.Bool.{cases_lt, cases_eq}
use Rattle.std.specs.declared.time.Duration.{Duration}
use Rattle.lost_connections.specs.declared.clients.Clients.{Clients}
use Rattle.lost_connections.specs.declared.clients.Connected.{Connected}
use Rattle.lost_connections.specs.declared.limits.TimeLimits.{TimeLimits}
use Rattle.lost_connections.specs.Clients.{connected_at, late_at, passed_by, IsFirstLate}
use Rattle.lost_loop.specs.Swept.{IsSwept, IsSweptBelow, ClosesFirst}

-- what is late is no nothing
not_none : {X : Type 0} (o : Option X) → IsSome o → o ≡ None → ⊥
not_none None is none = absurd (cc)
not_none (Some x) is none = absurd (cc)

module _ {I O T : Type 0} (limits : TimeLimits) (now : Duration) where
  -- a key that is late is one of a connection
  pub late_is_there : (c : Clients I O T) (key : ℕ) → IsSome (late_at c limits now key) → IsSome (connected_at c key)
  late_is_there c key = there (connected_at c key)
    where
      there : (o : Option (Connected I O T)) → IsSome (passed_by limits now o) → IsSome o
      there None is = absurd (cc)
      there (Some connected) is = refl

  pub swept_none : (old : Clients I O T) → IsSweptBelow limits now old old 0
  swept_none old = record {
    late = λ key below is. absurd (omega (arith, below));
    others = λ key none. refl;
    later = λ key from. refl;
  }

  module _ (old mid new : Clients I O T) where
    pub swept_more : (from key : ℕ) → IsSweptBelow limits now old mid from → ClosesFirst limits now mid new from key → IsSweptBelow limits now old new (key + 1)
    swept_more from key swept closes = record {
      late = λ k below is. late_gone k is (cases_lt k from) (cases_eq k key) below;
      others = λ k none. unless_key k none (cases_eq k key);
      later = λ k past. closes.others k (λ same. absurd (omega (arith, past, same))) ∙ swept.later k (omega (arith, closes.from_on, past));
    }
      where
        same_late : (k : ℕ) → from ≤ k → late_at mid limits now k ≡ late_at old limits now k
        same_late k past = ap (passed_by limits now) (swept.later k past)

        late_gone : (k : ℕ) → IsSome (late_at old limits now k) → (k < from) ⊎ (from ≤ k) → (k ≡ key) ⊎ (k ≡ key → ⊥) → k < key + 1 → connected_at new k ≡ None
        late_gone k is before (inl same) below = rw same closes.gone
        late_gone k is (inl before) (inr other) below = closes.others k other ∙ swept.late k before is
        late_gone k is (inr past) (inr other) below =
            absurd (not_none (late_at old limits now k) is (sym (same_late k past) ∙ closes.first k past (omega (arith, below, other))))

        unless_key : (k : ℕ) → late_at old limits now k ≡ None → (k ≡ key) ⊎ (k ≡ key → ⊥) → connected_at new k ≡ connected_at old k
        unless_key k none (inl same) =
            absurd (not_none (late_at mid limits now key) closes.is_late (same_late key closes.from_on ∙ ap (late_at old limits now) (sym same) ∙ none))
        unless_key k none (inr other) = closes.others k other ∙ swept.others k none

  module _ (old new : Clients I O T) (from : ℕ) where
    -- no further one is late
    pub swept_all : IsSweptBelow limits now old new from → IsFirstLate new from limits now None → IsSwept limits now old new
    swept_all swept none = record { late = λ key is. gone key is (cases_lt key from); others = swept.others }
      where
        gone : (key : ℕ) → IsSome (late_at old limits now key) → (key < from) ⊎ (from ≤ key) → connected_at new key ≡ None
        gone key is (inl before) = swept.late key before is
        gone key is (inr past) = absurd (not_none (late_at old limits now key) is (ap (passed_by limits now) (sym (swept.later key past)) ∙ none key past))

    -- there are no further ones
    pub swept_up_to : (bound : ℕ) → ((key : ℕ) → IsSome (connected_at old key) → key < bound) → bound ≤ from → IsSweptBelow limits now old new from → IsSwept limits now old new
    swept_up_to bound within past swept = record {
      late = λ key is. swept.late key (omega (arith, within key (late_is_there old key is), past)) is;
      others = swept.others;
    }
