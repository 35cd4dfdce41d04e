-- How far the search for the children of a service has come: the last mappings of a list are done.
use Rattle.std.proofs.Common.{◌≡◌, ℕ, zero, suc, ◌-◌, ◌<◌, ◌≤◌, Bool, true, false, cond, List, [], ◌∷◌, ◌++◌, length, drop, filter, filter_map, Option, Some, None, unwrap_or, refl, sym, ap, subst, ◌∙◌, append_assoc, arith}
use Rattle.std.specs.List.{cons_option, slice_get}
use Rattle.lost_spec.specs.Place.{Place}
use Rattle.lost_spec.specs.Text.{ascending_by}
use Rattle.lost_spec.specs.Service.{Service, service_text, child}
use Rattle.lost_spec.specs.Moment.{Instant}
use Rattle.lost_spec.specs.Mapping.{Mapping, is_live}
use Rattle.lost_spec.specs.Book.{Book}
use Rattle.lost_spec.specs.Positions.{positions}
use Rattle.lost_query.specs.Finding.{at_positions}
use Rattle.lost_query.proofs.PositionLemmas.{at_positions-positions}
use Rattle.std.proofs.lemmas.List.{nil_from_length}
use Rattle.lost_spec.specs.Services.{children_in, is_holding, services, all_services}
use Rattle.lost_query.specs.Children.{Children, with_some, with_child_to}

-- what was found is the children of q over these mappings
pub record HasChildren (q : Option Service) (ms : List Mapping) (children : Children) : Type 0 where
  pub above : children.above ≡ q
  pub found : children.found ≡ children_in q ms

-- a service that is found comes first
pub with_some-ascending_by : (found : Option Service) (services : List Service) → with_some found (ascending_by service_text services) ≡ ascending_by service_text (cons_option found services)
with_some-ascending_by None services = refl
with_some-ascending_by (Some s) services = refl

-- one more mapping
pub HasChildren-more : (q : Option Service) (m : Mapping) (ms : List Mapping) (s : Service) (old new : Children) → HasChildren q ms old → s ≡ m.service → new ≡ with_child_to s old → HasChildren q (m ∷ ms) new
HasChildren-more q m ms s old new before is added = record {
  above = ap (λ (c : Children). c.above) added ∙ before.above;
  found =
      ap (λ (c : Children). c.found) added ∙ ap (λ u. with_some (child old.above u) old.found) is ∙ ap (λ p. with_some (child p m.service) old.found) before.above
      ∙ ap (with_some (child q m.service)) before.found ∙ with_some-ascending_by (child q m.service) (filter_map (λ (n : Mapping). child q n.service) ms);
}

-- the mapping at one position more
pub HasChildren-at : (q : Option Service) (ms : List Mapping) (done : List ℕ) (i : ℕ) (m : Mapping) → slice_get ms i ≡ Some m → (s : Service) (old new : Children) → HasChildren q (at_positions ms done) old → s ≡ m.service → new ≡ with_child_to s old → HasChildren q (at_positions ms (i ∷ done)) new
HasChildren-at q ms done i m is s old new before own added =
    let more : m ∷ at_positions ms done ≡ at_positions ms (i ∷ done) = ap (λ o. cons_option o (at_positions ms done)) (sym is) in
    subst (λ ns. HasChildren q ns new) more (HasChildren-more q m (at_positions ms done) s old new before own added)

-- the next position stands before those that are done
pub next_done : (rest front done all : List ℕ) (i : ℕ) → rest ++ done ≡ all → rest ≡ front ++ i ∷ [] → front ++ (i ∷ done) ≡ all
next_done rest front done all i is next = sym (append_assoc front (i ∷ []) done) ∙ ap (λ xs. xs ++ done) (sym next) ∙ is

-- what stands at a place comes before what follows it
drop-slice_get : {Thing : Type 0} (xs : List Thing) (i : ℕ) (x : Thing) → slice_get xs i ≡ Some x → drop i xs ≡ x ∷ drop (suc i) xs
drop-slice_get [] i x is = absurd (cc)
drop-slice_get (y ∷ ys) zero x is = ap (λ o. unwrap_or o y ∷ ys) is
drop-slice_get (y ∷ ys) (suc i) x is = drop-slice_get ys i x is

module _ (test : Mapping → Bool) (q : Option Service) (ms : List Mapping) where
  -- the last mappings of a list, those that pass, and one before them that passes or fails
  module _ (i : ℕ) (m : Mapping) (some : 0 < i) (is : slice_get ms (i - 1) ≡ Some m) (old : Children) (before : HasChildren q (filter test (drop i ms)) old) where
    front : filter test (drop (i - 1) ms) ≡ filter test (m ∷ drop i ms)
    front = let next : suc (i - 1) ≡ i = omega arith in ap (filter test) (drop-slice_get ms (i - 1) m is ∙ ap (λ k. m ∷ drop k ms) next)

    pub HasChildren-passes : test m ≡ true → (s : Service) (new : Children) → s ≡ m.service → new ≡ with_child_to s old → HasChildren q (filter test (drop (i - 1) ms)) new
    HasChildren-passes passes s new own added =
        let passing : m ∷ filter test (drop i ms) ≡ filter test (drop (i - 1) ms) = ap (λ b. cond b (m ∷ filter test (drop i ms)) (filter test (drop i ms))) (sym passes) ∙ sym front in
        subst (λ ns. HasChildren q ns new) passing (HasChildren-more q m (filter test (drop i ms)) s old new before own added)

    pub HasChildren-fails : test m ≡ false → HasChildren q (filter test (drop (i - 1) ms)) old
    HasChildren-fails fails =
        let failing : filter test (drop i ms) ≡ filter test (drop (i - 1) ms) = ap (λ b. cond b (m ∷ filter test (drop i ms)) (filter test (drop i ms))) (sym fails) ∙ sym front in
        subst (λ ns. HasChildren q ns old) failing before

-- ---- at the end

-- where no mapping is left before, the children are the services anywhere
pub all_services-HasChildren : (b : Book) (t : Instant) (q : Option Service) (i : ℕ) (children : Children) → i ≤ 0 → HasChildren q (filter (λ m. is_live m t) (drop i b.mappings)) children → children.found ≡ all_services b t q
unfolding all_services
all_services-HasChildren b t q i children past has =
    let first : i ≡ 0 = omega arith in
    has.found ∙ ap (λ k. children_in q (filter (λ (m : Mapping). is_live m t) (drop k b.mappings))) first

-- where no position is left before, the children are the services at the place
pub services-HasChildren : (b : Book) (t : Instant) (l : Place) (q : Option Service) (rest done : List ℕ) (children : Children) → length rest ≡ 0 → rest ++ done ≡ positions (is_holding t l) b.mappings → HasChildren q (at_positions b.mappings done) children → children.found ≡ services b t l q
unfolding services
services-HasChildren b t l q rest done children past is has =
    let all : done ≡ positions (is_holding t l) b.mappings = ap (λ xs. xs ++ done) (sym (nil_from_length rest past)) ∙ is in
    has.found ∙ ap (children_in q) (at_positions-positions (is_holding t l) b.mappings done all)
