-- The services listed are those that some mapping offers.
use Rattle.std.specs.Prelude.{◌≡◌, ◌+◌, Bool, true, false, cond, not, ◌&&◌, IsTrue, List, [], ◌∷◌, ◌++◌, take, drop, length, filter, filter_map, Option, Some, None, unwrap_or, nat_lt, ◌⊎◌}
use Rattle.std.specs.List.{AllByRecursion, cons_option}
use Rattle.std.proofs.Common.{refl, sym, ap, ◌∙◌, subst, arith, inl, inr, append_assoc, length-append, take-append-drop, take_at}
use Rattle.std.proofs.Math.Seq.{take-append_seam}
use Rattle.std.proofs.lemmas.Bool.{and_parts, and_from, not-true, not_from_false}
use Rattle.lost_spec.specs.Place.{Place}
use Rattle.lost_spec.specs.Text.{Text, insert_by, ascending_by}
use Rattle.lost_spec.specs.Service.{Service, service_text, is_at_or_below, is_above, child}
use Rattle.lost_spec.specs.Moment.{Instant}
use Rattle.lost_spec.specs.Mapping.{Mapping, is_live}
use Rattle.lost_spec.specs.Find.{holds}
use Rattle.lost_spec.specs.Services.{services, all_services}
use Rattle.lost_spec.specs.Laws.{SomeByRecursion, BeginsWith}
use Rattle.lost_spec.specs.ListLaws.{Offers, OffersHere, AreWhatIsOffered, ServicesAreThere, AllServicesAreThere}
use Rattle.lost_spec.proofs.ListLemmas.{AllByRecursion-weaker, SomeByRecursion-weaker}
use Rattle.lost_spec.proofs.OrderLemmas.{by_insert_by, AllByRecursion-ascending_by, same_text-same}
use Rattle.lost_spec.proofs.ChainLemmas.{same_service-Decides}
use Rattle.lost_spec.proofs.ChildLemmas.{by_child, length-child, is_at_or_below-child}

-- ---- things put in order by their texts are still there, by their texts

module _ {Thing : Type 0} (text_of : Thing → Text) (P : Text → Type 0) where
  abbrev HasText : List Thing → Type 0
  HasText xs = SomeByRecursion (λ x. P (text_of x)) xs

  HasText-insert_by : (x : Thing) (xs : List Thing) → P (text_of x) ⊎ HasText xs → HasText (insert_by text_of x xs)
  HasText-insert_by x [] h = h
  HasText-insert_by x (y ∷ ys) h =
      by_insert_by text_of HasText x y ys (λ _. h) (λ same. joined (same_text-same (text_of x) (text_of y) same) h) (λ _. later h (λ k. HasText-insert_by x ys k))
    where
      joined : text_of x ≡ text_of y → P (text_of x) ⊎ HasText (y ∷ ys) → HasText (y ∷ ys)
      joined e (inl p) = inl (subst P e p)
      joined e (inr k) = k

      later : P (text_of x) ⊎ HasText (y ∷ ys) → (P (text_of x) ⊎ HasText ys → HasText (insert_by text_of x ys)) → HasText (y ∷ insert_by text_of x ys)
      later (inl p) put = inr (put (inl p))
      later (inr (inl p)) put = inl p
      later (inr (inr k)) put = inr (put (inr k))

  pub HasText-ascending_by : (xs : List Thing) → HasText xs → HasText (ascending_by text_of xs)
  HasText-ascending_by [] h = h
  HasText-ascending_by (x ∷ xs) h = HasText-insert_by x (ascending_by text_of xs) (put h (HasText-ascending_by xs))
    where
      put : P (text_of x) ⊎ HasText xs → (HasText xs → HasText (ascending_by text_of xs)) → P (text_of x) ⊎ HasText (ascending_by text_of xs)
      put (inl p) rest = inl p
      put (inr k) rest = inr (rest k)

-- ---- what a function gives of the things that pass a test

module _ {X Y : Type 0} (test : X → Bool) (h : X → Option Y) (Given : Y → X → Type 0) where
  -- is given by some thing
  given_some : ((x : X) (y : Y) → test x ≡ true → h x ≡ Some y → Given y x) → (xs : List X) → AllByRecursion (λ y. SomeByRecursion (Given y) xs) (filter_map h (filter test xs))
  given_some each [] = tt
  given_some each (x ∷ xs) = by (test x) refl (AllByRecursion-weaker (λ y. SomeByRecursion (Given y) xs) (λ y. SomeByRecursion (Given y) (x ∷ xs)) (λ y k. inr k) (filter_map h (filter test xs)) (given_some each xs))
    where
      value : (o : Option Y) → test x ≡ true → h x ≡ o → AllByRecursion (λ y. SomeByRecursion (Given y) (x ∷ xs)) (filter_map h (filter test xs)) → AllByRecursion (λ y. SomeByRecursion (Given y) (x ∷ xs)) (cons_option o (filter_map h (filter test xs)))
      value None e f rest = rest
      value (Some y) e f rest = (inl (each x y e f), rest)

      by : (b : Bool) → test x ≡ b → AllByRecursion (λ y. SomeByRecursion (Given y) (x ∷ xs)) (filter_map h (filter test xs)) → AllByRecursion (λ y. SomeByRecursion (Given y) (x ∷ xs)) (filter_map h (cond b (x ∷ filter test xs) (filter test xs)))
      by true e rest = value (h x) e refl rest
      by false e rest = rest

  -- what some thing gives is there
  some_given : (y : Y) → ((x : X) → Given y x → (test x ≡ true) × (h x ≡ Some y)) → (xs : List X) → SomeByRecursion (Given y) xs → SomeByRecursion (λ z. z ≡ y) (filter_map h (filter test xs))
  some_given y each [] given = given
  some_given y each (x ∷ xs) given = by given (some_given y each xs)
    where
      onward : (o : Option Y) → SomeByRecursion (λ z. z ≡ y) (filter_map h (filter test xs)) → SomeByRecursion (λ z. z ≡ y) (cons_option o (filter_map h (filter test xs)))
      onward None k = k
      onward (Some z) k = inr k

      passed : (b : Bool) → SomeByRecursion (λ z. z ≡ y) (filter_map h (filter test xs)) → SomeByRecursion (λ z. z ≡ y) (filter_map h (cond b (x ∷ filter test xs) (filter test xs)))
      passed true k = onward (h x) k
      passed false k = k

      by : Given y x ⊎ SomeByRecursion (Given y) xs → (SomeByRecursion (Given y) xs → SomeByRecursion (λ z. z ≡ y) (filter_map h (filter test xs))) → SomeByRecursion (λ z. z ≡ y) (filter_map h (filter test (x ∷ xs)))
      by (inl g) rest =
          let first = each x g in
          rw (first.0, first.1) (inl refl)
      by (inr k) rest = passed (test x) (rest k)

-- ---- children

-- a child of q over s begins s, and is q and one label more
begins-child : (q : Option Service) (s u : Service) → child q s ≡ Some u → BeginsWith s u
begins-child q s u =
    let above : Service = unwrap_or q [] in
    by_child (λ v. BeginsWith s v) above s u (λ h. (drop (length above + 1) s, sym (take-append-drop (length above + 1) s))) (is_above above s) refl

below_begins : (u above : Service) → IsTrue (is_at_or_below u above) → BeginsWith u above
below_begins u above h =
    let front : above ≡ take (length above) u = (same_service-Decides above (take (length above) u)).0 h in
    (drop (length above) u, sym (take-append-drop (length above) u) ∙ ap (λ (v : Service). v ++ drop (length above) u) (sym front))

begins_below : (u above rest : Service) → u ≡ above ++ rest → IsTrue (is_at_or_below u above)
begins_below u above rest e =
    (same_service-Decides above (take (length above) u)).1 (sym (ap (take (length above)) e ∙ take-append_seam above rest))

-- and what begins s, and is q and one label more, is the child
is_child : (q : Option Service) (s u : Service) → BeginsWith s u → BeginsWith u (unwrap_or q []) → length u ≡ length (unwrap_or q []) + 1 → child q s ≡ Some u
is_child q s u begins below long =
    let above : Service = unwrap_or q [] in
    let whole : s ≡ above ++ (below.0 ++ begins.0) = begins.1 ∙ ap (λ (v : Service). v ++ begins.0) below.1 ∙ append_assoc above below.0 begins.0 in
    let longer : length s ≡ length u + length begins.0 = ap length begins.1 ∙ length-append u begins.0 in
    let above_it : IsTrue (is_above above s) =
    and_from (is_at_or_below s above) (nat_lt (length above) (length s)) (begins_below s above (below.0 ++ begins.0) whole) (grind arith) in
    let cut : take (length above + 1) s ≡ u = ap (take (length above + 1)) begins.1 ∙ take_at u begins.0 (length above + 1) long in
    ap (λ b. cond b (Some (take (length above + 1) s)) None) above_it ∙ ap Some cut

-- ---- the laws

-- what a mapping offers
Offers-child : (t : Instant) (q : Option Service) (u : Service) (m : Mapping) → is_live m t ≡ true → child q m.service ≡ Some u → Offers t q u m
Offers-child t q u m live e = record {
  live = live;
  begins = begins-child q m.service u e;
  below = below_begins u (unwrap_or q []) (is_at_or_below-child q m.service u e);
  one_longer = length-child q m.service u e;
}

child-Offers : (t : Instant) (q : Option Service) (u : Service) (m : Mapping) → Offers t q u m → child q m.service ≡ Some u
child-Offers t q u m o = is_child q m.service u o.begins o.below o.one_longer

OffersHere-child : (t : Instant) (l : Place) (q : Option Service) (u : Service) (m : Mapping)
    → (is_live m t && (not m.is_default && holds m l)) ≡ true → child q m.service ≡ Some u → OffersHere t l q u m
OffersHere-child t l q u m passes e =
    let both = and_parts (is_live m t) (not m.is_default && holds m l) passes in
    let second = and_parts (not m.is_default) (holds m l) both.1 in
    record { offers = Offers-child t q u m both.0 e; not_default = not-true m.is_default second.0; place = second.1 }

passes-OffersHere : (t : Instant) (l : Place) (q : Option Service) (u : Service) (m : Mapping) → OffersHere t l q u m → (is_live m t && (not m.is_default && holds m l)) ≡ true
passes-OffersHere t l q u m h =
    and_from (is_live m t) (not m.is_default && holds m l) h.offers.live
    (and_from (not m.is_default) (holds m l) (not_from_false m.is_default h.not_default) h.place)

-- the children over the mappings that pass a test are those that the mappings offer
children_are_offered :
    (test : Mapping → Bool) (q : Option Service) (Offered : Service → Mapping → Type 0)
    → ((m : Mapping) (u : Service) → test m ≡ true → child q m.service ≡ Some u → Offered u m)
    → ((u : Service) (m : Mapping) → Offered u m → (test m ≡ true) × (child q m.service ≡ Some u))
    → (ms : List Mapping) → AreWhatIsOffered Offered ms (ascending_by service_text (filter_map (λ m. child q m.service) (filter test ms)))
children_are_offered test q Offered gives given ms =
    let children : List Service = filter_map (λ m. child q m.service) (filter test ms) in
    record {
      each_is_offered =
          AllByRecursion-ascending_by service_text (λ u. SomeByRecursion (Offered u) ms) children
          (given_some test (λ (m : Mapping). child q m.service) Offered gives ms);
      all_are_listed = λ u some.
          HasText-ascending_by service_text (λ text. text ≡ service_text u) children
          (SomeByRecursion-weaker (λ v. v ≡ u) (λ v. service_text v ≡ service_text u) (λ v e. ap service_text e) children
          (some_given test (λ (m : Mapping). child q m.service) Offered u (given u) ms some));
    }

-- the law `ServicesAreThere`
pub services_are_there_lem : ServicesAreThere
unfolding services
services_are_there_lem b t l q =
    children_are_offered (λ m. is_live m t && (not m.is_default && holds m l)) q (OffersHere t l q)
    (λ m u. OffersHere-child t l q u m) (λ u m h. (passes-OffersHere t l q u m h, child-Offers t q u m h.offers)) b.mappings

-- the law `AllServicesAreThere`
pub all_services_are_there_lem : AllServicesAreThere
unfolding all_services
all_services_are_there_lem b t q =
    children_are_offered (λ m. is_live m t) q (Offers t q)
    (λ m u. Offers-child t q u m) (λ u m h. (h.live, child-Offers t q u m h)) b.mappings
