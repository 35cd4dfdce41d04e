-- Laws of the lists of an answer: the names of a validation, the services below a service, and positions.
use Rattle.std.specs.Prelude.{◌≡◌, ℕ, ◌+◌, ◌<◌, Bool, IsTrue, IsFalse, List, [], ◌++◌, map, filter, Option, Some, slice_get, length, unwrap_or}
use Rattle.std.specs.List.{AllByRecursion}
use Rattle.lost_spec.specs.Place.{Place}
use Rattle.lost_spec.specs.Text.{Text, is_among, has_repeat}
use Rattle.lost_spec.specs.Positions.{positions}
use Rattle.lost_spec.specs.Service.{Service, service_text, is_at_or_below, is_service_before}
use Rattle.lost_spec.specs.Civic.{Pairs, names_of}
use Rattle.lost_spec.specs.Moment.{Instant}
use Rattle.lost_spec.specs.Mapping.{Mapping, is_live}
use Rattle.lost_spec.specs.Book.{Book}
use Rattle.lost_spec.specs.Find.{holds}
use Rattle.lost_spec.specs.Validation.{Validation, validation}
use Rattle.lost_spec.specs.Services.{services, all_services}
use Rattle.lost_spec.specs.Laws.{EachWithLater, SomeByRecursion, BeginsWith}

-- all names of a validation
abbrev pub all_names : Validation → List Text
all_names v = v.valid ++ (v.invalid ++ v.unchecked)

-- the names of a validation are those of the address, each once
pub record CoversEachNameOnce (address : Pairs) (v : Validation) : Type 0 where
  pub once : IsFalse (has_repeat (all_names v))
  pub same_names : (name : Text) → is_among name (all_names v) ≡ is_among name (names_of address)

-- valid, invalid and unchecked together are the names of the address, each once
abbrev pub ValidationCoversTheAddress : Type 0
ValidationCoversTheAddress =
    (b : Book) (t : Instant) (u : Service) (found : List Mapping) (address : Pairs) → CoversEachNameOnce address (validation b t u found address)

-- a list of services below q: ascending by text and so without repeats, each below q and one label longer
pub record AreChildren (q : Option Service) (us : List Service) : Type 0 where
  pub ascending : EachWithLater (λ u v. IsTrue (is_service_before u v)) us
  pub one_longer : AllByRecursion (λ u. length u ≡ length (unwrap_or q []) + 1) us
  pub below : AllByRecursion (λ u. IsTrue (is_at_or_below u (unwrap_or q []))) us

-- the services at a place, and those anywhere, are in order and one label longer than what was asked
abbrev pub ServicesAreChildren : Type 0
ServicesAreChildren = (b : Book) (t : Instant) (l : Place) (q : Option Service) → AreChildren q (services b t l q)

abbrev pub AllServicesAreChildren : Type 0
AllServicesAreChildren = (b : Book) (t : Instant) (q : Option Service) → AreChildren q (all_services b t q)

-- m is live, and its service begins with u, which is q and one label more
pub record Offers (t : Instant) (q : Option Service) (u : Service) (m : Mapping) : Type 0 where
  pub live : IsTrue (is_live m t)
  pub begins : BeginsWith m.service u
  pub below : BeginsWith u (unwrap_or q [])
  pub one_longer : length u ≡ length (unwrap_or q []) + 1

-- the same of an m that is no default and holds the place
pub record OffersHere (t : Instant) (l : Place) (q : Option Service) (u : Service) (m : Mapping) : Type 0 where
  pub offers : Offers t q u m
  pub not_default : IsFalse m.is_default
  pub place : IsTrue (holds m l)

-- each service listed is offered by some mapping, and each that some mapping offers is listed, by its text, which is what a reply prints
pub record AreWhatIsOffered (Offered : Service → Mapping → Type 0) (ms : List Mapping) (us : List Service) : Type 0 where
  pub each_is_offered : AllByRecursion (λ u. SomeByRecursion (Offered u) ms) us
  pub all_are_listed : (u : Service) → SomeByRecursion (Offered u) ms → SomeByRecursion (λ v. service_text v ≡ service_text u) us

-- a service is listed at a place, and anywhere, exactly where some mapping offers it there
abbrev pub ServicesAreThere : Type 0
ServicesAreThere = (b : Book) (t : Instant) (l : Place) (q : Option Service) → AreWhatIsOffered (OffersHere t l q) b.mappings (services b t l q)

abbrev pub AllServicesAreThere : Type 0
AllServicesAreThere = (b : Book) (t : Instant) (q : Option Service) → AreWhatIsOffered (Offers t q) b.mappings (all_services b t q)

-- positions of a list of mappings: rising, and what stands there is what passes the test, in order
pub record AreThePositions (test : Mapping → Bool) (ms : List Mapping) (places : List ℕ) : Type 0 where
  pub rising : EachWithLater (λ i j. i < j) places
  pub mappings : map (slice_get ms) places ≡ map Some (filter test ms)

-- the positions of what passes a test are where it stands
abbrev pub PositionsAreWhereItPasses : Type 0
PositionsAreWhereItPasses = (test : Mapping → Bool) (ms : List Mapping) → AreThePositions test ms (positions test ms)
