-- A walk over the table of services gives the services of the live mappings.
use Rattle.std.proofs.Common.{◌≡◌, ℕ, zero, suc, ◌+◌, ◌<◌, ◌≤◌, Bool, true, false, ◌&&◌, ◌||◌, IsTrue, List, [], ◌∷◌, Option, None, Some, length, filter, filter_map, slice_get, get_or, nat_eq, nat_lt, refl, sym, ap, arith, ◌∙◌}
use Rattle.std.specs.List.{AllByRecursion, list_any}
use Rattle.std.specs.Option.{option_map_or}
use Rattle.std.proofs.lemmas.Bool.{false≢true, and_parts, or_left, or_right}
use Rattle.std.proofs.lemmas.Bool.Decides.{nat_tests}
use Rattle.std.proofs.lemmas.Option.{slice_get_within, slice_get-get_or}
use Rattle.std.proofs.lemmas.Slice.Eq.{bytes_eq-Decides}
use Rattle.lost_spec.specs.Text.{Text, same_text}
use Rattle.lost_spec.specs.Service.{Service, service_text, is_service, same_service, child}
use Rattle.lost_spec.specs.Moment.{Instant}
use Rattle.lost_spec.specs.Mapping.{Mapping, is_live}
use Rattle.lost_spec.specs.Find.{serves}
use Rattle.lost_spec.specs.Services.{children_in}
use Rattle.lost_urn.proofs.ReadLemmas.{same_from_text}
use Rattle.lost_query.specs.Children.{Children, AreServices, no_children, with_child_to, children_to, is_among_services}
use Rattle.lost_query.proofs.AddedLemmas.{same_service-itself, living-added}
use Rattle.lost_query.proofs.HasChildren.{with_some-ascending_by}
use Rattle.lost_tables.specs.declared.tables.Tables.{Tables}
use Rattle.lost_tables.specs.Lists.{Stands}
use Rattle.lost_tables.specs.Lookup.{service_rows, is_row_with, ServicesAreWalked}
use Rattle.lost_tables.proofs.PickLemmas.{there_if, some_passes, first_passes, none_given}
use Rattle.lost_regions.specs.Regions.{Regions}
use Rattle.lost_routing.specs.Invariants.{IsStore}
use Rattle.lost_routing.specs.Walk.{is_live_of, live_position}
use Rattle.lost_routing.proofs.CoverLemmas.{noted_at}

-- it as a test of mappings
abbrev pub live_of : Instant → Text → Mapping → Bool
live_of t text m = is_live_of m t text

-- how far the walk has come: each service that was added is that of a live mapping, and each live mapping with its number in a row of its service before this one has a service that was added
pub record IsWalked (q : Option Service) (t : Instant) (ns : List ℕ) (ms : List Mapping) (rows : List (Text × List ℕ)) (done : ℕ) (children : Children) : Type 0 where
  pub added : List Service
  pub found : children ≡ record { above = q; found = children_to q added }
  pub services : AreServices added
  pub served : AllByRecursion (λ s. IsTrue (list_any (λ m. serves m t s) ms)) added
  pub each : (j : ℕ) (row : Text × List ℕ) (position n : ℕ) (m : Mapping) → j < done → slice_get rows j ≡ Some row
      → slice_get ms position ≡ Some m → slice_get ns position ≡ Some n → Stands n row.1 → is_live_of m t row.0 ≡ true
      → IsTrue (is_among_services added m.service)

-- ---- tests

before : (j i : ℕ) → nat_lt j i ≡ true → j < i
before j i h = grind (arith, nat_tests)

last : (j i : ℕ) → nat_lt j i ≡ false → j < i + 1 → j ≡ i
last j i h below = let past : i ≤ j = grind (arith, nat_tests) in omega (arith, past, below)

some_same : {X : Type 0} (x y : X) → Some x ≡ Some y → x ≡ y
some_same x y h = cc

both : (a b : Bool) → a ≡ true → b ≡ true → (a && b) ≡ true
both true b one other = other
both false b one other = one

same_texts : (a b : Text) → same_text a b ≡ true → a ≡ b
same_texts a b h = (bytes_eq-Decides a b).0 h

any_at : {X : Type 0} (p : X → Bool) (xs : List X) → list_any p xs ≡ true → (j : ℕ) × (x : X) × (slice_get xs j ≡ Some x) × (p x ≡ true)
any_at p [] some = absurd (false≢true some)
any_at {X} p (x ∷ xs) some = by (p x) refl some (any_at p xs)
  where
    by : (b : Bool) → p x ≡ b → (b || list_any p xs) ≡ true
        → (list_any p xs ≡ true → (j : ℕ) × (y : X) × (slice_get xs j ≡ Some y) × (p y ≡ true))
        → (j : ℕ) × (y : X) × (slice_get (x ∷ xs) j ≡ Some y) × (p y ≡ true)
    by true is here later = (zero, x, refl, is)
    by false is here later = let found = later here in (suc found.0, found.1, found.2, found.3)

all_at : (P : Mapping → Type 0) (ms : List Mapping) → ((position : ℕ) (m : Mapping) → slice_get ms position ≡ Some m → P m) → AllByRecursion P ms
all_at P [] at = tt
all_at P (m ∷ ms) at = (at zero m refl, all_at P ms (λ position. at (suc position)))

-- ---- before the first row

pub none_walked : (q : Option Service) (t : Instant) (ns : List ℕ) (ms : List Mapping) (rows : List (Text × List ℕ)) (children : Children)
    → children ≡ no_children q → IsWalked q t ns ms rows 0 children
none_walked q t ns ms rows children none = record {
  added = [];
  found = none;
  services = tt;
  served = tt;
  each = λ j row position n m below. absurd (omega (arith, below));
}

module _ (ns : List ℕ) (ms : List Mapping) (tables : Tables) (regions : Regions) (kept : IsStore ns ms tables regions) (q : Option Service) (t : Instant) where
  is_well_formed : (position n : ℕ) (m : Mapping) → slice_get ms position ≡ Some m → slice_get ns position ≡ Some n → IsTrue (is_service m.service)
  is_well_formed position n m at_m at_n = (noted_at ns ms tables regions kept position n m at_m at_n).well_formed

  -- ---- one row more

  module _ (row : Text × List ℕ) where
    abbrev chosen : Option ℕ
    chosen = live_position ns ms t row.0 row.1

    pub chosen_within : (position : ℕ) → Some position ≡ chosen → position < length ms
    chosen_within position is_chosen =
        let there = there_if (live_of t row.0) (slice_get ms position) (first_passes (live_of t row.0) ns ms kept.rising kept.paired row.1 position is_chosen) in
        slice_get_within ms position there.0 there.1

    module _ (i : ℕ) (at : slice_get (service_rows tables) i ≡ Some row) (old : Children)
        (walked : IsWalked q t ns ms (service_rows tables) i old) where
      -- where no live mapping of the row's service was found, none has its number there
      pub no_more : None ≡ chosen → IsWalked q t ns ms (service_rows tables) (i + 1) old
      no_more none = record {
        added = walked.added;
        found = walked.found;
        services = walked.services;
        served = walked.served;
        each = λ j r position n m below at_r at_m at_n stands live. by (nat_lt j i) j r position n m refl below at_r at_m at_n stands live;
      }
        where
          by : (b : Bool) (j : ℕ) (r : Text × List ℕ) (position n : ℕ) (m : Mapping) → nat_lt j i ≡ b → j < i + 1 → slice_get (service_rows tables) j ≡ Some r
              → slice_get ms position ≡ Some m → slice_get ns position ≡ Some n → Stands n r.1 → is_live_of m t r.0 ≡ true
              → IsTrue (is_among_services walked.added m.service)
          by true j r position n m is below at_r at_m at_n stands live = walked.each j r position n m (before j i is) at_r at_m at_n stands live
          by false j r position n m is below at_r at_m at_n stands live =
              let same : r ≡ row = some_same r row (sym at_r ∙ ap (slice_get (service_rows tables)) (last j i is below) ∙ at) in
              let fails = none_given (live_of t row.0) ns ms kept.rising kept.paired row.1 none position n at_n (ap (λ (x : Text × List ℕ). list_any (nat_eq n) x.1) (sym same) ∙ stands) in
              absurd (false≢true (sym fails ∙ ap (λ o. option_map_or (live_of t row.0) o false) at_m
              ∙ ap (λ (x : Text × List ℕ). is_live_of m t x.0) (sym same) ∙ live))

      -- and where one was found, its service is that of the row
      module _ (position : ℕ) (x : Mapping) (is_chosen : Some position ≡ chosen) (at_x : slice_get ms position ≡ Some x) (s : Service) (own : s ≡ x.service)
          (well_formed : IsTrue (is_service s)) (new : Children) (added : new ≡ with_child_to s old) where
        lives : is_live_of x t row.0 ≡ true
        lives =
            sym (ap (λ o. option_map_or (live_of t row.0) o false) at_x)
            ∙ first_passes (live_of t row.0) ns ms kept.rising kept.paired row.1 position is_chosen

        lives_here : (is_live x t ≡ true) × (same_text (service_text x.service) row.0 ≡ true)
        lives_here = and_parts (is_live x t) (same_text (service_text x.service) row.0) lives

        abbrev whole : List Service → Children
        whole services = record { above = q; found = services }

        found_more : new ≡ record { above = q; found = children_to q (s ∷ walked.added) }
        found_more =
            added ∙ ap (with_child_to s) walked.found
            ∙ ap whole (with_some-ascending_by (child q s) (filter_map (child q) walked.added))

        served_here : IsTrue (list_any (λ m. serves m t s) ms)
        served_here =
            some_passes (λ m. serves m t s) ms position
            (ap (λ o. option_map_or (λ m. serves m t s) o false) at_x
            ∙ both (is_live x t) (same_service x.service s) lives_here.0 (ap (same_service x.service) own ∙ same_service-itself x.service))

        same_as_here : (spot n : ℕ) (m : Mapping) → slice_get ms spot ≡ Some m → slice_get ns spot ≡ Some n → is_live_of m t row.0 ≡ true → m.service ≡ s
        same_as_here spot n m at_m at_n live =
            same_from_text m.service s (is_well_formed spot n m at_m at_n) well_formed
            (same_texts (service_text m.service) row.0 (and_parts (is_live m t) (same_text (service_text m.service) row.0) live).1
            ∙ sym (same_texts (service_text x.service) row.0 lives_here.1) ∙ ap service_text (sym own))

        pub one_more : IsWalked q t ns ms (service_rows tables) (i + 1) new
        one_more = record {
          added = s ∷ walked.added;
          found = found_more;
          services = (well_formed, walked.services);
          served = (served_here, walked.served);
          each = λ j r spot n m below at_r at_m at_n stands live. by (nat_lt j i) j r spot n m refl below at_r at_m at_n stands live;
        }
          where
            by : (b : Bool) (j : ℕ) (r : Text × List ℕ) (spot n : ℕ) (m : Mapping) → nat_lt j i ≡ b → j < i + 1 → slice_get (service_rows tables) j ≡ Some r
                → slice_get ms spot ≡ Some m → slice_get ns spot ≡ Some n → Stands n r.1 → is_live_of m t r.0 ≡ true
                → IsTrue (is_among_services (s ∷ walked.added) m.service)
            by true j r spot n m is below at_r at_m at_n stands live =
                or_right (same_service m.service s) (is_among_services walked.added m.service)
                (walked.each j r spot n m (before j i is) at_r at_m at_n stands live)
            by false j r spot n m is below at_r at_m at_n stands live =
                let same : r ≡ row = some_same r row (sym at_r ∙ ap (slice_get (service_rows tables)) (last j i is below) ∙ at) in
                let alike = same_as_here spot n m at_m at_n (ap (λ (y : Text × List ℕ). is_live_of m t y.0) (sym same) ∙ live) in
                or_left (same_service m.service s) (is_among_services walked.added m.service)
                (ap (same_service m.service) (sym alike) ∙ same_service-itself m.service)

  -- ---- behind the last row

  pub all_walked : ServicesAreWalked → (i : ℕ) (children : Children) → length (service_rows tables) ≤ i → IsWalked q t ns ms (service_rows tables) i children
      → children.found ≡ children_in q (filter (λ m. is_live m t) ms)
  all_walked listed i children past walked =
      ap (λ (c : Children). c.found) walked.found
      ∙ living-added ms t q walked.added walked.services walked.served (all_at (λ m. IsTrue (is_live m t) → IsTrue (is_among_services walked.added m.service)) ms each)
    where
      each : (position : ℕ) (m : Mapping) → slice_get ms position ≡ Some m → IsTrue (is_live m t) → IsTrue (is_among_services walked.added m.service)
      each position m at_m live =
          let within = slice_get_within ms position m at_m in
          let at_n = slice_get-get_or ns position 0 (omega (arith, within, kept.paired)) in
          let there = any_at (is_row_with m.service (get_or ns position 0)) (service_rows tables)
          (listed tables m.service (get_or ns position 0) (noted_at ns ms tables regions kept position (get_or ns position 0) m at_m at_n).by_service) in
          let row = there.1 in
          let parts = and_parts (same_text (service_text m.service) row.0) (list_any (nat_eq (get_or ns position 0)) row.1) there.3 in
          let before_end = slice_get_within (service_rows tables) there.0 row there.2 in
          walked.each there.0 row position (get_or ns position 0) m (omega (arith, before_end, past)) there.2 at_m at_n parts.1
          (both (is_live m t) (same_text (service_text m.service) row.0) live parts.0)
