-- What the services below a service are: in order, one label longer, and below it.
use Rattle.std.specs.Prelude.{◌≡◌, ◌+◌, ◌<◌, Bool, true, false, cond, IsTrue, List, [], ◌∷◌, take, length, Option, Some, None, unwrap_or, nat_lt, filter_map}
use Rattle.std.specs.List.{AllByRecursion, cons_option}
use lib.Pointwise.{pointwise}
use Rattle.std.proofs.Common.{refl, ap, ◌∙◌, subst, arith, ltb-true, take-take, length-take-le}
use Rattle.std.proofs.lemmas.Bool.{and_parts}
use Rattle.lost_spec.specs.Place.{Place}
use Rattle.lost_spec.specs.Text.{same_text}
use Rattle.lost_spec.specs.Service.{Service, service_text, is_at_or_below, is_above, child}
use Rattle.lost_spec.specs.Moment.{Instant}
use Rattle.lost_spec.specs.Mapping.{Mapping}
use Rattle.lost_spec.specs.Book.{Book}
use Rattle.lost_spec.specs.Services.{services, all_services, children_in, holding, living}
use Rattle.lost_spec.specs.ListLaws.{AreChildren}
use Rattle.lost_spec.proofs.OrderLemmas.{AllByRecursion-ascending_by, EachWithLater-ascending_by}

-- what holds of each thing that h gives holds of all that it gives of a list
pub AllByRecursion-filter_map :
    {X Y : Type 0} (P : Y → Type 0) (h : X → Option Y)
    → ((x : X) (y : Y) → h x ≡ Some y → P y)
    → (xs : List X) → AllByRecursion P (filter_map h xs)
AllByRecursion-filter_map P h each [] = tt
AllByRecursion-filter_map {X} {Y} P h each (x ∷ xs) = by (h x) refl (AllByRecursion-filter_map P h each xs)
  where
    by : (o : Option Y) → h x ≡ o → AllByRecursion P (filter_map h xs) → AllByRecursion P (cons_option o (filter_map h xs))
    by None e rest = rest
    by (Some y) e rest = (each x y e, rest)

-- the first labels of s, one more than those above it, are so many
length-take-above : (above s : Service) → IsTrue (is_above above s) → length (take (length above + 1) s) ≡ length above + 1
length-take-above above s h =
    let l : length above < length s = ltb-true (length above) (length s) (and_parts (is_at_or_below s above) (nat_lt (length above) (length s)) h).1 in
    length-take-le (length above + 1) s (omega arith)

-- and they are below those above
is_at_or_below-take : (above s : Service) → IsTrue (is_above above s) → IsTrue (is_at_or_below (take (length above + 1) s) above)
is_at_or_below-take above s h =
    let below : IsTrue (is_at_or_below s above) = (and_parts (is_at_or_below s above) (nat_lt (length above) (length s)) h).0 in
    ap (λ (front : Service). pointwise same_text above front) (take-take (length above) (length above + 1) s (omega arith)) ∙ below

-- what holds of the first labels of s, one more than those above it, holds of a child; b, whether they are above it
pub by_child :
    (P : Service → Type 0) (above s u : Service)
    → (IsTrue (is_above above s) → P (take (length above + 1) s))
    → (b : Bool) → is_above above s ≡ b → cond b (Some (take (length above + 1) s)) None ≡ Some u → P u
by_child P above s u p true e h = subst P (ap (λ o. unwrap_or o []) h) (p e)
by_child P above s u p false e h = absurd (cc)

-- a child of q is one label longer than q
pub length-child : (q : Option Service) (s u : Service) → child q s ≡ Some u → length u ≡ length (unwrap_or q []) + 1
length-child q s u =
    let above : Service = unwrap_or q [] in
    by_child (λ v. length v ≡ length above + 1) above s u (length-take-above above s) (is_above above s) refl

-- and below q
pub is_at_or_below-child : (q : Option Service) (s u : Service) → child q s ≡ Some u → IsTrue (is_at_or_below u (unwrap_or q []))
is_at_or_below-child q s u =
    let above : Service = unwrap_or q [] in
    by_child (λ v. IsTrue (is_at_or_below v above)) above s u (is_at_or_below-take above s) (is_above above s) refl

-- what holds of each child of q holds of all children of q over some mappings
AllByRecursion-children_in :
    (P : Service → Type 0) (q : Option Service)
    → ((s u : Service) → child q s ≡ Some u → P u)
    → (ms : List Mapping) → AllByRecursion P (children_in q ms)
AllByRecursion-children_in P q each ms =
    AllByRecursion-ascending_by service_text P (filter_map (λ m. child q m.service) ms)
    (AllByRecursion-filter_map P (λ (m : Mapping). child q m.service) (λ m. each m.service) ms)

-- the children of q over any mappings are in order, one label longer than q and below it
pub AreChildren-children_in : (q : Option Service) (ms : List Mapping) → AreChildren q (children_in q ms)
AreChildren-children_in q ms = record {
  ascending = EachWithLater-ascending_by service_text (filter_map (λ m. child q m.service) ms);
  one_longer = AllByRecursion-children_in (λ u. length u ≡ length (unwrap_or q []) + 1) q (length-child q) ms;
  below = AllByRecursion-children_in (λ u. IsTrue (is_at_or_below u (unwrap_or q []))) q (is_at_or_below-child q) ms;
}

-- so are the services at a place, and those anywhere
pub AreChildren-services : (b : Book) (t : Instant) (l : Place) (q : Option Service) → AreChildren q (services b t l q)
unfolding services
AreChildren-services b t l q = AreChildren-children_in q (holding b t l)

pub AreChildren-all_services : (b : Book) (t : Instant) (q : Option Service) → AreChildren q (all_services b t q)
unfolding all_services
AreChildren-all_services b t q = AreChildren-children_in q (living b t)
