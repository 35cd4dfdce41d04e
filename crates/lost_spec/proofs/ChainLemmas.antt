-- Lemmas on the chain of a service.
use Rattle.std.proofs.Common.{◌≡◌, ℕ, zero, suc, ◌<◌, ◌≤◌, ◌⊎◌, inl, inr, true, ◌||◌, List, [], ◌∷◌, length, take, drop, Option, Some, None, Decides, sym, refl, ap, subst, ◌∙◌, true≢false, arith, take-append-drop, length-take-le, take_at, ◌≢◌}
use Rattle.std.specs.List.{AllByRecursion, list_any}
use Rattle.std.proofs.lemmas.Slice.Eq.{bytes_eq-Decides}
use Rattle.std.proofs.lemmas.List.Prefix.{front_fits}
use Rattle.std.proofs.lemmas.Bool.{or_right, or_cases}
use lib.Pointwise.{pointwise_decides}
use Rattle.lost_spec.specs.Service.{Service, same_service, cuts, chain}
use Rattle.lost_spec.specs.Mapping.{Mapping}
use Rattle.lost_spec.specs.Find.{unless_empty, first_with}
use Rattle.lost_spec.specs.FindLaws.{IsOfChain}

-- two services that are compared as the same are equal
pub same_service-Decides : (s u : Service) → Decides (same_service s u) (s ≡ u)
same_service-Decides = pointwise_decides bytes_eq-Decides

-- ---- the services of a chain

-- a service of no length has no label
nil_has_no_label : (u : Service) → length u ≤ 0 → u ≡ []
nil_has_no_label [] h = refl
nil_has_no_label (x ∷ u) h = absurd (omega arith)

-- the first labels of a service, one at least, are of its chain
pub IsOfChain-take : (n : ℕ) (s : Service) → suc n ≤ length s → IsOfChain (take (suc n) s) s
IsOfChain-take n [] h = absurd (omega arith)
IsOfChain-take n (x ∷ s) h = record { some_label = λ e. cc e; begins = (drop (suc n) (x ∷ s), sym (take-append-drop (suc n) (x ∷ s))) }

-- a service of the chain is no longer than the service
pub length-IsOfChain : (u s : Service) → IsOfChain u s → length u ≤ length s
length-IsOfChain u s c = front_fits s u c.begins.0 c.begins.1

-- a service of the chain is the first labels of the service, as many as it has
pub take_of_chain : (u s : Service) (n : ℕ) → IsOfChain u s → length u ≡ n → take n s ≡ u
take_of_chain u s n c e = ap (take n) c.begins.1 ∙ take_at u c.begins.0 n e

-- each cut of a service is of its chain
pub cuts_are_of_chain : (n : ℕ) (s : Service) → n ≤ length s → AllByRecursion (λ u. IsOfChain u s) (cuts n s)
cuts_are_of_chain zero s h = tt
cuts_are_of_chain (suc n) s h = (IsOfChain-take n s h, cuts_are_of_chain n s (omega arith))

-- a number up to suc n is that, or is up to n
either_long : (n k : ℕ) → k ≤ suc n → (k ≡ suc n) ⊎ (k ≤ n)
either_long n k h = grind arith

-- a service is among the cuts of s just where it is of the chain of s and no longer than they are
pub IsOfChain-from_cuts : (x : Service) (n : ℕ) (s : Service) → n ≤ length s → list_any (λ u. same_service x u) (cuts n s) ≡ true → IsOfChain x s
IsOfChain-from_cuts x zero s h e = absurd (true≢false (sym e))
IsOfChain-from_cuts x (suc n) s h e = by (or_cases (same_service x (take (suc n) s)) (list_any (λ u. same_service x u) (cuts n s)) e) (IsOfChain-from_cuts x n s (omega arith))
  where
    by : (same_service x (take (suc n) s) ≡ true) ⊎ (list_any (λ u. same_service x u) (cuts n s) ≡ true) → (list_any (λ u. same_service x u) (cuts n s) ≡ true → IsOfChain x s) → IsOfChain x s
    by (inl same) rest = subst (λ u. IsOfChain u s) (sym ((same_service-Decides x (take (suc n) s)).0 same)) (IsOfChain-take n s h)
    by (inr later) rest = rest later

pub cuts_have : (x : Service) (n : ℕ) (s : Service) → IsOfChain x s → length x ≤ n → list_any (λ u. same_service x u) (cuts n s) ≡ true
cuts_have x zero s c h = absurd (c.some_label (nil_has_no_label x h))
cuts_have x (suc n) s c h = by (either_long n (length x) h) (cuts_have x n s c)
  where
    by : (length x ≡ suc n) ⊎ (length x ≤ n) → (length x ≤ n → list_any (λ u. same_service x u) (cuts n s) ≡ true) → (same_service x (take (suc n) s) || list_any (λ u. same_service x u) (cuts n s)) ≡ true
    by (inl long) rest = ap (λ b. b || list_any (λ u. same_service x u) (cuts n s)) ((same_service-Decides x (take (suc n) s)).1 (sym (take_of_chain x s (suc n) c long)))
    by (inr short) rest = or_right (same_service x (take (suc n) s)) (list_any (λ u. same_service x u) (cuts n s)) (rest short)

-- the chain of s has just the services that begin it
pub chain-Decides : (x s : Service) → Decides (list_any (λ u. same_service x u) (chain s)) (IsOfChain x s)
chain-Decides x s = (IsOfChain-from_cuts x (length s) s (omega arith), λ c. cuts_have x (length s) s c (length-IsOfChain x s c))

-- ---- the first service with mappings

-- u and ms are the first of the cuts of s to n labels that has mappings, with them
pub record IsFirst (ask : Service → List Mapping) (s : Service) (n : ℕ) (u : Service) (ms : List Mapping) : Type 0 where
  pub of_chain : IsOfChain u s
  pub has : ask u ≡ ms
  pub some : ms ≢ []
  pub none_before : (v : Service) → IsOfChain v s → length u < length v → length v ≤ n → ask v ≡ []

-- what is first, or that no cut has mappings
abbrev pub IsFirstOrNone : (Service → List Mapping) → Service → ℕ → Option (Service × List Mapping) → Type 0
IsFirstOrNone ask s n None = (v : Service) → IsOfChain v s → length v ≤ n → ask v ≡ []
IsFirstOrNone ask s n (Some p) = IsFirst ask s n p.0 p.1

-- where the cut to suc n labels has no mappings, and no shorter v has, no v up to it has
passed_over : (ask : Service → List Mapping) (s : Service) (n : ℕ) → ask (take (suc n) s) ≡ [] → (v : Service) → IsOfChain v s → length v ≤ suc n → (length v ≤ n → ask v ≡ []) → ask v ≡ []
passed_over ask s n none v c h rest = by (either_long n (length v) h)
  where
    by : (length v ≡ suc n) ⊎ (length v ≤ n) → ask v ≡ []
    by (inl long) = ap ask (sym (take_of_chain v s (suc n) c long)) ∙ none
    by (inr short) = rest short

-- a search of one cut more
first_more : (ask : Service → List Mapping) (s : Service) (n : ℕ) → suc n ≤ length s → (ms : List Mapping) → ask (take (suc n) s) ≡ ms
    → (later : Option (Service × List Mapping)) → IsFirstOrNone ask s n later → IsFirstOrNone ask s (suc n) (unless_empty (take (suc n) s) ms later)
first_more ask s n fits [] e None none = λ v c h. passed_over ask s n e v c h (none v c)
first_more ask s n fits [] e (Some p) first = record {
  of_chain = first.of_chain;
  has = first.has;
  some = first.some;
  none_before = λ v c l h. passed_over ask s n e v c h (first.none_before v c l);
}
first_more ask s n fits (m ∷ ms) e later first = record {
  of_chain = IsOfChain-take n s fits;
  has = e;
  some = λ h. cc h;
  none_before = λ v c l h. absurd (omega (arith, length-take-le (suc n) s fits));
}

-- what a search of the cuts gives
pub first_with_cuts : (ask : Service → List Mapping) (s : Service) (n : ℕ) → n ≤ length s → IsFirstOrNone ask s n (first_with ask (cuts n s))
first_with_cuts ask s zero fits = λ v c h. absurd (c.some_label (nil_has_no_label v h))
first_with_cuts ask s (suc n) fits = first_more ask s n fits (ask (take (suc n) s)) refl (first_with ask (cuts n s)) (first_with_cuts ask s n (omega arith))
