-- What is found at a place for a service and those above it has all that is asked of it.
use Rattle.std.proofs.Common.{◌≡◌, ◌<◌, ℕ, zero, suc, Bool, true, false, not, ◌&&◌, ⊎_elim, List, [], ◌∷◌, All, length, take, filter, refl, sym, ap, subst, ◌∙◌}
use Rattle.std.specs.List.{list_any}
use Rattle.std.proofs.lemmas.Bool.{false≢true, or_cases}
use Rattle.lost_spec.specs.Place.{Place}
use Rattle.lost_spec.specs.Service.{Service, same_service, cuts, chain, is_at_or_below}
use Rattle.lost_spec.specs.Moment.{Instant}
use Rattle.lost_spec.specs.Mapping.{Mapping, is_live}
use Rattle.lost_spec.specs.Find.{holds}
use Rattle.lost_spec.specs.Book.{Book}
use Rattle.lost_spec.specs.Services.{is_holding, holding}
use Rattle.lost_spec.specs.Positions.{positions}
use Rattle.lost_urn.specs.Order.{same_service_is}
use Rattle.lost_query.specs.Finding.{at_positions, of_chain}
use Rattle.lost_query.proofs.PositionLemmas.{at_positions-positions, positions-within}
use Rattle.lost_query.proofs.SplitLemmas.{filter_alike, filter-filter}
use Rattle.lost_routing.specs.Chain.{is_chain_holder}

-- ---- what has a service of a chain

take_again : {X : Type 0} (k : ℕ) (xs : List X) → take (length (take k xs)) xs ≡ take k xs
take_again zero xs = refl
take_again (suc k) [] = refl
take_again (suc k) (x ∷ xs) = ap (λ l. x ∷ l) (take_again k xs)

-- a service of a chain is the service that the chain is of, or one above it
below_cut : (v s : Service) (n : ℕ) → list_any (λ u. same_service v u) (cuts n s) ≡ true → is_at_or_below s v ≡ true
below_cut v s zero h = absurd (false≢true h)
below_cut v s (suc n) h =
    ⊎_elim
    (λ here. ap (λ u. same_service v u)
    (ap (λ u. take (length u) s) (same_service_is v (take (suc n) s) here) ∙ take_again (suc n) s) ∙ here)
    (λ later. below_cut v s n later)
    (or_cases (same_service v (take (suc n) s)) (list_any (λ u. same_service v u) (cuts n s)) h)

-- ---- tests

and_false : (a : Bool) → (a && false) ≡ false
and_false true = refl
and_false false = refl

without_third : (a b h : Bool) → (((a && (b && true)) && h) && true) ≡ ((a && (b && h)) && true)
without_third true true h = refl
without_third true false h = refl
without_third false b h = refl

-- where the third is implied, it need not be asked
third_implied : (a b c h on : Bool) → (on ≡ true → c ≡ true) → (((a && (b && c)) && h) && on) ≡ ((a && (b && h)) && on)
third_implied a b c h true implied = ap (λ d. ((a && (b && d)) && h) && true) (implied refl) ∙ without_third a b h
third_implied a b c h false implied = and_false ((a && (b && c)) && h) ∙ sym (and_false (a && (b && h)))

-- ---- what is found

module _ (t : Instant) (l : Place) (s : Service) (ms : List Mapping) (found : List ℕ) (are : found ≡ positions (is_chain_holder t l s) ms) where
  abbrev on_chain : Mapping → Bool
  on_chain m = list_any (λ u. same_service m.service u) (chain s)

  -- it is within the list
  pub chain_within : All (λ position. position < length ms) found
  chain_within = positions-within (is_chain_holder t l s) ms found are

  -- and has the mappings of the chain that hold the place
  pub chain_found : of_chain s (at_positions ms found) ≡ of_chain s (filter (is_holding t l) ms)
  chain_found =
      ap (of_chain s) (at_positions-positions (is_chain_holder t l s) ms found are)
      ∙ filter-filter (is_chain_holder t l s) on_chain ms
      ∙ filter_alike (λ m. is_chain_holder t l s m && on_chain m) (λ m. is_holding t l m && on_chain m)
      (λ m. third_implied (is_live m t) (not m.is_default) (is_at_or_below s m.service) (holds m l) (on_chain m) (below_cut m.service s (length s))) ms
      ∙ sym (filter-filter (is_holding t l) on_chain ms)

-- so too of a book, whose mappings these are
module _ (b : Book) (ms : List Mapping) (t : Instant) (l : Place) (s : Service) (held : ms ≡ b.mappings)
    (found : List ℕ) (are : found ≡ positions (is_chain_holder t l s) ms) where
  pub book_chain_within : All (λ position. position < length b.mappings) found
  book_chain_within = subst (λ list. All (λ position. position < length list) found) held (chain_within t l s ms found are)

  pub book_chain_found : of_chain s (at_positions b.mappings found) ≡ of_chain s (holding b t l)
  book_chain_found = chain_found t l s b.mappings found (are ∙ ap (positions (is_chain_holder t l s)) held)
