-- That each mapping that passes a test has its number among the candidates.
use Rattle.std.proofs.Common.{◌≡◌, ℕ, zero, suc, Bool, true, false, not, cond, ◌&&◌, ◌||◌, List, [], ◌∷◌, Option, None, Some, IfSome, map, filter, slice_get, Contains, nat_eq, refl, sym, ap, subst, arith, ◌∙◌}
use Rattle.std.specs.Cmp.{nat_eq_equiv}
use Rattle.std.specs.List.{AllByRecursion, list_any, zip}
use Rattle.std.proofs.lemmas.Bool.{false≢true}
use Rattle.std.proofs.lemmas.Bool.Decides.{nat_tests}
use Rattle.std.proofs.lemmas.Map.Views.{Contains-from_any, list_any-from_Contains}
use Rattle.std.proofs.lemmas.Slice.Eq.{bytes_eq-Decides}
use Rattle.lost_spec.specs.Place.{Place, AtPoint, AtAddress, AtToken}
use Rattle.lost_spec.specs.Text.{Text, same_text}
use Rattle.lost_spec.specs.Service.{Service, same_service}
use Rattle.lost_spec.specs.Ring.{inside}
use Rattle.lost_spec.specs.Civic.{Pairs, matches}
use Rattle.lost_spec.specs.Token.{contains_token}
use Rattle.lost_spec.specs.Moment.{Instant}
use Rattle.lost_spec.specs.Mapping.{Mapping, is_live}
use Rattle.lost_spec.specs.Book.{Identity, identity_of, has_identity, has_key, is_key}
use Rattle.lost_spec.specs.Find.{holds, serves, is_standby}
use Rattle.lost_spec.specs.Services.{has_live_key}
use Rattle.lost_urn.specs.Order.{same_service_is}
use Rattle.lost_civic.specs.declared.elements.Element.{Element}
use Rattle.lost_query.specs.Judged.{is_reference, is_referring}
use Rattle.lost_index.specs.Entries.{holders}
use Rattle.lost_tables.specs.declared.tables.Tables.{Tables}
use Rattle.lost_tables.specs.Lookup.{ByIdentity, ByKey, ByService, ByDefault, numbers_of, IsListed, IsFullyListed}
use Rattle.lost_tables.specs.Picks.{Covers}
use Rattle.lost_regions.specs.Regions.{Regions, regions_of, holders_at}
use Rattle.lost_routing.specs.Invariants.{IsStore}

itself : (n : ℕ) → nat_eq n n ≡ true
itself n = search (arith, nat_tests)

pub same_number : (n k : ℕ) → nat_eq n k ≡ true → n ≡ k
same_number n k same = search (arith, nat_tests)

none_some : {X : Type 0} (x : X) → None ≡ Some x → ⊥
none_some x h = cc

some_same : {X : Type 0} (x y : X) → Some x ≡ Some y → x ≡ y
some_same x y h = cc

pub left_of : (a b : Bool) → (a && b) ≡ true → a ≡ true
left_of true b h = refl
left_of false b h = h

pub right_of : (a b : Bool) → (a && b) ≡ true → b ≡ true
right_of true b h = h
right_of false b h = absurd (false≢true h)

pub held_of : (a b c : Bool) → (a && (b && c)) ≡ true → c ≡ true
held_of a b c h = right_of b c (right_of a (b && c) h)

pub or_true : (a b : Bool) → b ≡ true → (a || b) ≡ true
or_true true b h = refl
or_true false b h = h

-- ---- what is true of each row is true at each position

pub row_at : (P : ℕ × Mapping → Type 0) (ns : List ℕ) (ms : List Mapping) → AllByRecursion P (zip ns ms)
    → (i n : ℕ) (m : Mapping) → slice_get ms i ≡ Some m → slice_get ns i ≡ Some n → P (n, m)
row_at P [] ms all i n m at_m at_n = absurd (none_some n at_n)
row_at P (k ∷ ns) [] all i n m at_m at_n = absurd (none_some m at_m)
row_at P (k ∷ ns) (x ∷ ms) all zero n m at_m at_n =
    subst (λ j. P (j, m)) (some_same k n at_n) (subst (λ y. P (k, y)) (some_same x m at_m) all.0)
row_at P (k ∷ ns) (x ∷ ms) all (suc i) n m at_m at_n = row_at P ns ms all.1 i n m at_m at_n

-- ---- the holders of a place

module _ {R L : Type 0} (of : Mapping → List R) (holds : R → L → Bool) (location : L) where
  abbrev entries : List (ℕ × Mapping) → List (ℕ × List R)
  entries rows = map (λ e. (e.0, of e.1)) rows

  abbrev passes : ℕ × List R → Bool
  passes e = list_any (λ region. holds region location) e.1

  listed_first : (b : Bool) (n k : ℕ) (rs : List R) (later : List (ℕ × List R)) → b ≡ true → k ≡ n
      → list_any (nat_eq n) (map (λ e. e.0) (cond b ((k, rs) ∷ later) later)) ≡ true
  listed_first true n k rs later h same = rw (same, itself n) refl
  listed_first false n k rs later h same = absurd (false≢true h)

  listed_later : (b : Bool) (n k : ℕ) (rs : List R) (later : List (ℕ × List R)) → list_any (nat_eq n) (map (λ e. e.0) later) ≡ true
      → list_any (nat_eq n) (map (λ e. e.0) (cond b ((k, rs) ∷ later) later)) ≡ true
  listed_later true n k rs later h = or_true (nat_eq n k) (list_any (nat_eq n) (map (λ e. e.0) later)) h
  listed_later false n k rs later h = h

  holder_at : (ns : List ℕ) (ms : List Mapping) (i n : ℕ) (m : Mapping) → slice_get ms i ≡ Some m → slice_get ns i ≡ Some n
      → list_any (λ region. holds region location) (of m) ≡ true → list_any (nat_eq n) (holders holds location (entries (zip ns ms))) ≡ true
  holder_at [] ms i n m at_m at_n some = absurd (none_some n at_n)
  holder_at (k ∷ ns) [] i n m at_m at_n some = absurd (none_some m at_m)
  holder_at (k ∷ ns) (x ∷ ms) zero n m at_m at_n some =
      listed_first (passes (k, of x)) n k (of x) (filter passes (entries (zip ns ms)))
      (ap (λ y. passes (k, of y)) (some_same x m at_m) ∙ some) (some_same k n at_n)
  holder_at (k ∷ ns) (x ∷ ms) (suc i) n m at_m at_n some =
      listed_later (passes (k, of x)) n k (of x) (filter passes (entries (zip ns ms))) (holder_at ns ms i n m at_m at_n some)

-- a mapping that holds a place is among the holders there
place_holder_at : (l : Place) (ns : List ℕ) (ms : List Mapping) (i n : ℕ) (m : Mapping) → slice_get ms i ≡ Some m → slice_get ns i ≡ Some n
    → holds m l ≡ true → list_any (nat_eq n) (holders_at l (regions_of (zip ns ms))) ≡ true
place_holder_at (AtPoint point) ns ms i n m at_m at_n h = holder_at (λ x. x.regions.polygons) inside point ns ms i n m at_m at_n h
place_holder_at (AtAddress address) ns ms i n m at_m at_n h = holder_at (λ x. x.regions.patterns) matches address ns ms i n m at_m at_n h
place_holder_at (AtToken token) ns ms i n m at_m at_n h = holder_at (λ x. x.regions.token_sets) contains_token token ns ms i n m at_m at_n h

-- ---- what a test tells of a mapping

same_parts : (a b c d : Text) → a ≡ b → c ≡ d → ◌≡◌ {A = Identity} (record { source = a; source_id = c }) (record { source = b; source_id = d })
same_parts a b c d one other = cc

identity_is : (m : Mapping) (id : Identity) → has_identity m id ≡ true → identity_of m ≡ id
identity_is m id h =
    same_parts m.source id.source m.source_id id.source_id
    ((bytes_eq-Decides m.source id.source).0 (left_of (same_text m.source id.source) (same_text m.source_id id.source_id) h))
    ((bytes_eq-Decides m.source_id id.source_id).0 (right_of (same_text m.source id.source) (same_text m.source_id id.source_id) h))

key_listed : (tables : Tables) (n : ℕ) (own : Option Text) (key : Text) → is_key own key ≡ true
    → IfSome own (λ k. IsListed tables (ByKey k) n) → IsListed tables (ByKey key) n
key_listed tables n None key h listed = absurd (false≢true h)
key_listed tables n (Some own) key h listed = subst (λ k. IsListed tables (ByKey k) n) ((bytes_eq-Decides own key).0 h) listed

service_is : (m : Mapping) (t : Instant) (u : Service) → serves m t u ≡ true → m.service ≡ u
service_is m t u h = same_service_is m.service u (right_of (is_live m t) (same_service m.service u) h)

-- ---- covers

module _ (ns : List ℕ) (ms : List Mapping) (tables : Tables) (regions : Regions) (kept : IsStore ns ms tables regions) where
  abbrev Among : List ℕ → ℕ → Type 0
  Among candidates number = list_any (nat_eq number) candidates ≡ true

  pub noted_at : (place number : ℕ) (m : Mapping) → slice_get ms place ≡ Some m → slice_get ns place ≡ Some number → IsFullyListed tables m number
  noted_at place number m at_m at_n = row_at (λ e. IsFullyListed tables e.1 e.0) ns ms kept.listed place number m at_m at_n

  pub covers_identity : (id : Identity) (candidates : List ℕ) → candidates ≡ numbers_of tables (ByIdentity id)
      → Covers (λ m. has_identity m id) ns ms candidates
  covers_identity id candidates is place number m at_m at_n h =
      subst (λ l. Among l number) (sym is)
      (subst (λ k. IsListed tables (ByIdentity k) number) (identity_is m id h) (noted_at place number m at_m at_n).by_identity)

  covers_key : (test : Mapping → Bool) (key : Text) (candidates : List ℕ) → ((m : Mapping) → test m ≡ true → has_key m key ≡ true)
      → candidates ≡ numbers_of tables (ByKey key) → Covers test ns ms candidates
  covers_key test key candidates tells is place number m at_m at_n h =
      subst (λ l. Among l number) (sym is) (key_listed tables number m.key key (tells m h) (noted_at place number m at_m at_n).by_key)

  pub covers_other_key : (id : Identity) (key : Text) (candidates : List ℕ) → candidates ≡ numbers_of tables (ByKey key)
      → Covers (λ m. not (has_identity m id) && has_key m key) ns ms candidates
  covers_other_key id key candidates is =
      covers_key (λ m. not (has_identity m id) && has_key m key) key candidates (λ m h. right_of (not (has_identity m id)) (has_key m key) h) is

  pub covers_live_key : (t : Instant) (key : Text) (candidates : List ℕ) → candidates ≡ numbers_of tables (ByKey key)
      → Covers (has_live_key t key) ns ms candidates
  covers_live_key t key candidates is =
      covers_key (has_live_key t key) key candidates (λ m h. right_of (is_live m t) (has_key m key) h) is

  covers_serving : (test : Mapping → Bool) (t : Instant) (u : Service) (candidates : List ℕ) → ((m : Mapping) → test m ≡ true → serves m t u ≡ true)
      → candidates ≡ numbers_of tables (ByService u) → Covers test ns ms candidates
  covers_serving test t u candidates tells is place number m at_m at_n h =
      subst (λ l. Among l number) (sym is)
      (subst (λ s. IsListed tables (ByService s) number) (service_is m t u (tells m h)) (noted_at place number m at_m at_n).by_service)

  pub covers_service : (t : Instant) (u : Service) (candidates : List ℕ) → candidates ≡ numbers_of tables (ByService u)
      → Covers (λ m. serves m t u) ns ms candidates
  covers_service t u candidates is = covers_serving (λ m. serves m t u) t u candidates (λ m h. h) is

  pub covers_referring : (t : Instant) (u : Service) (address : Pairs) (elements : List Element) (candidates : List ℕ)
      → candidates ≡ numbers_of tables (ByService u) → Covers (is_referring t u address elements) ns ms candidates
  covers_referring t u address elements candidates is =
      covers_serving (is_referring t u address elements) t u candidates
      (λ m h. left_of (serves m t u) (list_any (is_reference elements address) m.regions.patterns) h) is

  pub covers_default : (t : Instant) (u : Service) (candidates : List ℕ) → candidates ≡ numbers_of tables (ByDefault u)
      → Covers (is_standby t u) ns ms candidates
  covers_default t u candidates is place number m at_m at_n h =
      subst (λ l. Among l number) (sym is)
      (subst (λ s. IsListed tables (ByDefault s) number) (service_is m t u (left_of (serves m t u) m.is_default h))
      ((noted_at place number m at_m at_n).by_default (right_of (serves m t u) m.is_default h)))

  pub covers_at : (test : Mapping → Bool) (l : Place) (candidates : List ℕ) → ((m : Mapping) → test m ≡ true → holds m l ≡ true)
      → ((n : ℕ) → Contains (holders_at l regions) n → Contains candidates n) → Covers test ns ms candidates
  covers_at test l candidates tells among place number m at_m at_n h =
      list_any-from_Contains nat_eq_equiv number candidates
      (among number
      (Contains-from_any same_number number (holders_at l regions)
      (subst (λ r. Among (holders_at l r) number) (sym kept.indexed)
      (place_holder_at l ns ms place number m at_m at_n (tells m h)))))

  pub covers_at_reference : {L : Type 0} (test : Mapping → Bool) (names : Pairs → L → Bool) (asked : L) (candidates : List ℕ)
      → ((m : Mapping) → test m ≡ true → list_any (λ pattern. names pattern asked) m.regions.patterns ≡ true)
      → ((n : ℕ) → Contains (holders names asked regions.references) n → Contains candidates n) → Covers test ns ms candidates
  covers_at_reference test names asked candidates tells among place number m at_m at_n h =
      list_any-from_Contains nat_eq_equiv number candidates
      (among number
      (Contains-from_any same_number number (holders names asked regions.references)
      (subst (λ r. Among (holders names asked r.references) number) (sym kept.indexed)
      (holder_at (λ x. x.regions.patterns) names asked ns ms place number m at_m at_n (tells m h)))))
