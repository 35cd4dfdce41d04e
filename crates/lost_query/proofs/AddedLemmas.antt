-- The children of a service are the same on the way to the same services, in whatever order and however often these were added.
use Rattle.std.proofs.Common.{◌≡◌, ◌+◌, ◌<◌, Bool, true, false, cond, ◌&&◌, ◌||◌, IsTrue, List, [], ◌∷◌, length, drop, get_or, map, filter, filter_map, Option, None, Some, unwrap_or, nat_lt, refl, sym, ap, ◌∙◌, arith, ltb-true}
use Rattle.std.specs.List.{AllByRecursion, list_any, cons_option}
use Rattle.std.specs.Cmp.{both_ways}
use Rattle.std.proofs.lemmas.Bool.{false≢true, and_parts, or_left, or_right}
use Rattle.std.proofs.lemmas.Slice.Eq.{slice_eq-Decides, bytes_eq-Decides}
use Rattle.lost_spec.specs.Text.{Text, same_text, ascending_by}
use Rattle.lost_spec.specs.Service.{Service, service_text, is_service, same_service, is_at_or_below, is_above, child}
use Rattle.lost_spec.specs.Moment.{Instant}
use Rattle.lost_spec.specs.Mapping.{Mapping, is_live}
use Rattle.lost_spec.specs.Find.{serves}
use Rattle.lost_spec.specs.Services.{children_in}
use Rattle.lost_spec.proofs.ChildLemmas.{by_child}
use Rattle.lost_spec.proofs.ListLemmas.{AllByRecursion-weaker}
use Rattle.lost_spec.proofs.OrderLemmas.{AllByRecursion-ascending_by}
use Rattle.lost_urn.specs.Order.{same_service_is}
use Rattle.lost_urn.proofs.ReadLemmas.{same_from_text}
use Rattle.lost_urn.proofs.CutLemmas.{cut_service}
use Rattle.lost_query.specs.Children.{AreServices, children_to, is_among_services}
use Rattle.lost_mapping.proofs.FoldLemmas.{list_any-map}
use Rattle.lost_query.proofs.MemberLemmas.{ascending_by-same}

-- ---- services

-- services with the same texts are the same
same_from_texts : (xs ys : List Service) → AreServices xs → AreServices ys → map service_text xs ≡ map service_text ys → xs ≡ ys
same_from_texts [] [] h k same = refl
same_from_texts [] (y ∷ ys) h k same = absurd (cc)
same_from_texts (x ∷ xs) [] h k same = absurd (cc)
same_from_texts (x ∷ xs) (y ∷ ys) h k same =
    let first : x ≡ y = same_from_text x y h.0 k.0 (ap (λ texts. get_or texts 0 []) same) in
    ap (λ z. z ∷ xs) first ∙ ap (λ zs. y ∷ zs) (same_from_texts xs ys h.1 k.1 (ap (drop 1) same))

-- a child of a service is a service
child_is_service : (q : Option Service) (s u : Service) → IsTrue (is_service s) → child q s ≡ Some u → IsTrue (is_service u)
child_is_service q s u h =
    let above : Service = unwrap_or q [] in
    by_child (λ v. IsTrue (is_service v)) above s u
    (λ below.
    let shorter : length above < length s = ltb-true (length above) (length s) (and_parts (is_at_or_below s above) (nat_lt (length above) (length s)) below).1 in
    cut_service s (length above + 1) h (omega arith) (omega arith))
    (is_above above s) refl

AreServices-children : (q : Option Service) (xs : List Service) → AreServices xs → AreServices (filter_map (child q) xs)
AreServices-children q [] all = tt
AreServices-children q (x ∷ xs) all = by (child q x) (λ u. child_is_service q x u all.0) (AreServices-children q xs all.1)
  where
    by : (o : Option Service) → ((u : Service) → o ≡ Some u → IsTrue (is_service u)) → AreServices (filter_map (child q) xs) → AreServices (cons_option o (filter_map (child q) xs))
    by None one rest = rest
    by (Some u) one rest = (one u refl, rest)

-- ---- the same members

-- what an option gives passes
abbrev gives : (Service → Bool) → Option Service → Bool
gives p None = false
gives p (Some u) = p u

any_given : (p : Service → Bool) (o : Option Service) (us : List Service) → list_any p (cons_option o us) ≡ (gives p o || list_any p us)
any_given p None us = refl
any_given p (Some u) us = refl

any_child : (p : Service → Bool) (q : Option Service) (xs : List Service) → list_any p (filter_map (child q) xs) ≡ list_any (λ x. gives p (child q x)) xs
any_child p q [] = refl
any_child p q (x ∷ xs) = any_given p (child q x) (filter_map (child q) xs) ∙ ap (λ b. gives p (child q x) || b) (any_child p q xs)

-- the children on the way to the same services are the same
pub children_to-same : (q : Option Service) (xs ys : List Service) → AreServices xs → AreServices ys → ((p : Service → Bool) → list_any p xs ≡ list_any p ys) → children_to q xs ≡ children_to q ys
children_to-same q xs ys h k same =
    let services = λ (zs : List Service) (all : AreServices zs). AllByRecursion-ascending_by service_text (λ s. IsTrue (is_service s)) (filter_map (child q) zs) (AreServices-children q zs all) in
    let among = λ (zs : List Service) (t : Text). sym (list_any-map service_text (same_text t) (filter_map (child q) zs)) ∙ any_child (λ s. same_text t (service_text s)) q zs in
    same_from_texts (children_to q xs) (children_to q ys) (services xs h) (services ys k)
    (ascending_by-same service_text (filter_map (child q) xs) (filter_map (child q) ys)
    (λ t. among xs t ∙ same (λ x. gives (λ s. same_text t (service_text s)) (child q x)) ∙ sym (among ys t)))

-- ---- one list within another

pub same_service-itself : (s : Service) → same_service s s ≡ true
same_service-itself s = (slice_eq-Decides bytes_eq-Decides s s (same_service s s) refl).1 refl

any_one : (p : Service → Bool) (x : Service) (ys : List Service) → p x ≡ true → list_any (same_service x) ys ≡ true → list_any p ys ≡ true
any_one p x [] passes among = absurd (false≢true among)
any_one p x (y ∷ ys) passes among = by (same_service x y) refl among (any_one p x ys passes)
  where
    by : (b : Bool) → same_service x y ≡ b → (b || list_any (same_service x) ys) ≡ true → (list_any (same_service x) ys ≡ true → list_any p ys ≡ true) → (p y || list_any p ys) ≡ true
    by true e here rest = or_left (p y) (list_any p ys) (sym (ap p (same_service_is x y e)) ∙ passes)
    by false e here rest = or_right (p y) (list_any p ys) (rest here)

any_within : (p : Service → Bool) (xs ys : List Service) → AllByRecursion (λ s. IsTrue (is_among_services ys s)) xs → list_any p xs ≡ true → list_any p ys ≡ true
any_within p [] ys all some = absurd (false≢true some)
any_within p (x ∷ xs) ys all some = by (p x) refl some (any_within p xs ys all.1)
  where
    by : (b : Bool) → p x ≡ b → (b || list_any p xs) ≡ true → (list_any p xs ≡ true → list_any p ys ≡ true) → list_any p ys ≡ true
    by true e here rest = any_one p x ys e all.0
    by false e here rest = rest here

-- two lists, each within the other
pub any_same : (xs ys : List Service) → AllByRecursion (λ s. IsTrue (is_among_services ys s)) xs → AllByRecursion (λ s. IsTrue (is_among_services xs s)) ys → (p : Service → Bool) → list_any p xs ≡ list_any p ys
any_same xs ys h k p = both_ways (list_any p xs) (list_any p ys) (any_within p xs ys h) (any_within p ys xs k)

-- what is within services are services
AreServices-within : (xs ys : List Service) → AreServices ys → AllByRecursion (λ s. IsTrue (is_among_services ys s)) xs → AreServices xs
AreServices-within [] ys all h = tt
AreServices-within (x ∷ xs) ys all h = (one ys all h.0, AreServices-within xs ys all h.1)
  where
    one : (ys : List Service) → AreServices ys → IsTrue (is_among_services ys x) → IsTrue (is_service x)
    one [] all among = absurd (false≢true among)
    one (y ∷ ys) all among = by (same_service x y) refl among (one ys all.1)
      where
        by : (b : Bool) → same_service x y ≡ b → (b || list_any (same_service x) ys) ≡ true → (IsTrue (is_among_services ys x) → IsTrue (is_service x)) → IsTrue (is_service x)
        by true e here rest = ap is_service (same_service_is x y e) ∙ all.0
        by false e here rest = rest here

-- ---- the services of live mappings

module _ (t : Instant) (added : List Service) where
  abbrev services_of : List Mapping → List Service
  services_of ms = map (λ (m : Mapping). m.service) (filter (λ m. is_live m t) ms)

  live_within : (ms : List Mapping) → AllByRecursion (λ m. IsTrue (is_live m t) → IsTrue (is_among_services added m.service)) ms → AllByRecursion (λ s. IsTrue (is_among_services added s)) (services_of ms)
  live_within [] h = tt
  live_within (m ∷ ms) h = by (is_live m t) h.0 (live_within ms h.1)
    where
      by : (b : Bool) → (IsTrue b → IsTrue (is_among_services added m.service)) → AllByRecursion (λ s. IsTrue (is_among_services added s)) (services_of ms) → AllByRecursion (λ s. IsTrue (is_among_services added s)) (map (λ (n : Mapping). n.service) (cond b (m ∷ filter (λ n. is_live n t) ms) (filter (λ n. is_live n t) ms)))
      by true one rest = (one refl, rest)
      by false one rest = rest

  served_within : (s : Service) (ms : List Mapping) → IsTrue (list_any (λ m. serves m t s) ms) → IsTrue (is_among_services (services_of ms) s)
  served_within s [] some = absurd (false≢true some)
  served_within s (m ∷ ms) some = by (is_live m t) (same_service m.service s) refl some (served_within s ms)
    where
      by : (b c : Bool) → same_service m.service s ≡ c → ((b && c) || list_any (λ n. serves n t s) ms) ≡ true → (IsTrue (list_any (λ n. serves n t s) ms) → IsTrue (is_among_services (services_of ms) s)) → IsTrue (is_among_services (map (λ (n : Mapping). n.service) (cond b (m ∷ filter (λ n. is_live n t) ms) (filter (λ n. is_live n t) ms))) s)
      by false c e here rest = rest here
      by true true e here rest = or_left (same_service s m.service) (is_among_services (services_of ms) s) (ap (same_service s) (same_service_is m.service s e) ∙ same_service-itself s)
      by true false e here rest = or_right (same_service s m.service) (is_among_services (services_of ms) s) (rest here)

children_in-services : (q : Option Service) (ms : List Mapping) → filter_map (child q) (map (λ (m : Mapping). m.service) ms) ≡ filter_map (λ (m : Mapping). child q m.service) ms
children_in-services q [] = refl
children_in-services q (m ∷ ms) = ap (cons_option (child q m.service)) (children_in-services q ms)

-- who added the service of each live mapping, and no other, has the services below that of the live mappings
pub living-added :
    (ms : List Mapping) (t : Instant) (q : Option Service) (added : List Service)
    → AreServices added
    → AllByRecursion (λ s. IsTrue (list_any (λ m. serves m t s) ms)) added
    → AllByRecursion (λ m. IsTrue (is_live m t) → IsTrue (is_among_services added m.service)) ms
    → children_to q added ≡ children_in q (filter (λ m. is_live m t) ms)
living-added ms t q added all served each =
    let lives = services_of t added ms in
    let within : AllByRecursion (λ s. IsTrue (is_among_services added s)) lives = live_within t added ms each in
    let around : AllByRecursion (λ s. IsTrue (is_among_services lives s)) added = AllByRecursion-weaker (λ s. IsTrue (list_any (λ m. serves m t s) ms)) (λ s. IsTrue (is_among_services lives s)) (λ s. served_within t added s ms) added served in
    children_to-same q added lives all (AreServices-within lives added all within) (any_same added lives around within)
    ∙ ap (ascending_by service_text) (children_in-services q (filter (λ m. is_live m t) ms))
