-- A search of a chain, one service after the other, and what it is asked of the mappings that hold a place.
use Rattle.std.specs.Prelude.{◌≡◌, ◌≢◌, ℕ, zero, suc, ◌-◌, ◌<◌, ◌≤◌, Bool, true, false, not, ◌&&◌, List, [], ◌∷◌, length, take, filter, Option, Some}
use Rattle.std.specs.List.{list_any}
use Rattle.std.proofs.Common.{⊎_elim, refl, sym, ap, subst, ◌∙◌, arith}
use Rattle.std.proofs.lemmas.Bool.{cases_lt, or_left, or_right}
use Rattle.lost_spec.specs.Place.{Place}
use Rattle.lost_spec.specs.Service.{Service, same_service, cuts, chain}
use Rattle.lost_spec.specs.Moment.{Instant}
use Rattle.lost_spec.specs.Mapping.{Mapping, is_live}
use Rattle.lost_spec.specs.Book.{Book}
use Rattle.lost_spec.specs.Find.{holds, is_holder, at, unless_empty, first_with}
use Rattle.lost_spec.specs.Services.{is_holding, holding}
use Rattle.lost_spec.specs.Positions.{positions}
use Rattle.lost_spec.proofs.FilterLemmas.{filter-filter as filter-within}
use Rattle.lost_query.specs.Finding.{at_positions, of_chain}
use Rattle.lost_query.proofs.PositionLemmas.{at_positions-positions}
use Rattle.lost_query.proofs.SplitLemmas.{filter_alike, filter-filter}

-- ---- what a service has

-- three tests in another order
and_other_way : (a b c : Bool) → ((a && b) && c) ≡ ((a && c) && b)
and_other_way false b c = refl
and_other_way true false false = refl
and_other_way true false true = refl
and_other_way true true false = refl
and_other_way true true true = refl

-- to hold a place for a service is to hold it, and to have the service
is_holder-and : (t : Instant) (l : Place) (u : Service) (m : Mapping) → is_holder t l u m ≡ (is_holding t l m && same_service m.service u)
is_holder-and t l u m = and_other_way (is_live m t) (same_service m.service u) (not m.is_default && holds m l)

-- what has a cut of a service has a service of its chain
has_cut : (v s : Service) (d n : ℕ) → 0 < d → d ≤ n → same_service v (take d s) ≡ true → list_any (λ u. same_service v u) (cuts n s) ≡ true
has_cut v s d zero some within same = absurd (omega arith)
has_cut v s d (suc n) some within same =
    ⊎_elim
    (λ shorter. or_right (same_service v (take (suc n) s)) (list_any (λ u. same_service v u) (cuts n s))
    (has_cut v s d n some (omega (arith, shorter)) same))
    (λ longest. or_left (same_service v (take (suc n) s)) (list_any (λ u. same_service v u) (cuts n s))
    (subst (λ k. same_service v (take k s) ≡ true) (same_end d n within longest) same))
    (cases_lt d (suc n))
  where
    same_end : (d n : ℕ) → d ≤ suc n → suc n ≤ d → d ≡ suc n
    same_end d n up down = omega arith

-- the mappings of a service of a chain, among some that have those of the chain which hold a place
pub at-from_chain : (b : Book) (t : Instant) (l : Place) (s u : Service) (d : ℕ) (places : List ℕ) → 0 < d → d ≤ length s → u ≡ take d s
    → of_chain s (at_positions b.mappings places) ≡ of_chain s (holding b t l)
    → filter (λ m. same_service m.service u) (at_positions b.mappings places) ≡ at b t l u
at-from_chain b t l s u d places some within cut are =
    let has : Mapping → Bool = λ m. same_service m.service u in
    let on_chain : Mapping → Bool = λ m. list_any (λ v. same_service m.service v) (chain s) in
    let implied : (m : Mapping) → has m ≡ true → on_chain m ≡ true =
    λ m h. has_cut m.service s d (length s) some within (subst (λ v. same_service m.service v ≡ true) cut h) in
    sym (filter-within has on_chain implied (at_positions b.mappings places))
    ∙ ap (filter has) are
    ∙ filter-within has on_chain implied (holding b t l)
    ∙ filter-filter (is_holding t l) has b.mappings
    ∙ sym (filter_alike (is_holder t l u) (λ m. is_holding t l m && has m) (is_holder-and t l u) b.mappings)

-- what holds a place has those of each chain which do
pub of_chain-holding : (b : Book) (t : Instant) (l : Place) (s : Service) (places : List ℕ) → places ≡ positions (is_holding t l) b.mappings
    → of_chain s (at_positions b.mappings places) ≡ of_chain s (holding b t l)
of_chain-holding b t l s places are = ap (of_chain s) (at_positions-positions (is_holding t l) b.mappings places are)

-- ---- the search

-- what begins with a mapping is not empty
pub cons_nonempty : (m : Mapping) (ms : List Mapping) → m ∷ ms ≢ []
cons_nonempty m ms none = cc

unless_nonempty : (u : Service) (ms : List Mapping) (later : Option (Service × List Mapping)) → ms ≢ [] → unless_empty u ms later ≡ Some (u, ms)
unless_nonempty u [] later nonempty = absurd (nonempty refl)
unless_nonempty u (m ∷ ms) later nonempty = refl

module _ (ask : Service → List Mapping) (s : Service) where
  -- a search asks the longest cut first
  first_with-cut : (d : ℕ) → 0 < d → first_with ask (cuts d s) ≡ unless_empty (take d s) (ask (take d s)) (first_with ask (cuts (d - 1) s))
  first_with-cut zero h = absurd (omega arith)
  first_with-cut (suc n) h = let less : suc n - 1 ≡ n = omega arith in rw less refl

  -- a search that has come to a cut: where it has no mapping, it is passed over; where it has some, it is what is found
  module _ (d : ℕ) (u : Service) (ms : List Mapping) (some : 0 < d) (cut : u ≡ take d s) (has : ms ≡ ask u) where
    pub first_with-passed : (whole : Option (Service × List Mapping)) → whole ≡ first_with ask (cuts d s) → ms ≡ [] → whole ≡ first_with ask (cuts (d - 1) s)
    first_with-passed whole so_far none =
        let nothing : ask (take d s) ≡ [] = ap ask (sym cut) ∙ sym has ∙ none in
        so_far ∙ first_with-cut d some ∙ ap (λ found. unless_empty (take d s) found (first_with ask (cuts (d - 1) s))) nothing

    first_with-first : ms ≢ [] → first_with ask (cuts d s) ≡ Some (u, ms)
    first_with-first nonempty =
        let those : ask (take d s) ≡ ms = ap ask (sym cut) ∙ sym has in
        first_with-cut d some ∙ ap (λ found. unless_empty (take d s) found (first_with ask (cuts (d - 1) s))) those
        ∙ unless_nonempty (take d s) ms (first_with ask (cuts (d - 1) s)) nonempty ∙ ap (λ v. Some (v, ms)) (sym cut)

    pub first_with-found : (whole : Option (Service × List Mapping)) → whole ≡ first_with ask (cuts d s) → ms ≢ [] → Some (u, ms) ≡ whole
    first_with-found whole so_far nonempty = sym (so_far ∙ first_with-first nonempty)
