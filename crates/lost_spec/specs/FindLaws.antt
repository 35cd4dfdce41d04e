-- Laws of what is found, in the words of RFC 5222 and without the steps of a search.
use Rattle.std.specs.Prelude.{◌≡◌, ◌≢◌, ℕ, ◌<◌, Bool, IsTrue, IsFalse, List, [], IfSome, length}
use Rattle.std.specs.List.{AllByRecursion}
use Rattle.lost_spec.specs.Place.{Place}
use Rattle.lost_spec.specs.Text.{Text}
use Rattle.lost_spec.specs.Service.{Service}
use Rattle.lost_spec.specs.Moment.{Instant}
use Rattle.lost_spec.specs.Mapping.{Mapping, is_live}
use Rattle.lost_spec.specs.Book.{Book, Edit, Publish, Replace, Withdraw, identity_of, held, after}
use Rattle.lost_spec.specs.Find.{holds, Finding, FoundHolders, FoundDefaults, FoundNothing, found, is_implemented}
use Rattle.lost_spec.specs.Request.{Location, FindService, Reply, FindServiceResponse, ListServicesByLocationResponse, ListServicesResponse, GetServiceBoundaryResponse, Errors, BadRequest, InternalError}
use Rattle.lost_spec.specs.Answer.{answer}
use Rattle.lost_spec.specs.Laws.{Picks, BeginsWith}

-- u is a service of the chain of s: s begins with its labels, and it has one at least
pub record IsOfChain (u s : Service) : Type 0 where
  pub some_label : u ≢ []
  pub begins : BeginsWith s u

-- m is live at t, is no default, has service u and holds the place
pub record HoldsHere (t : Instant) (l : Place) (u : Service) (m : Mapping) : Type 0 where
  pub live : IsTrue (is_live m t)
  pub not_default : IsFalse m.is_default
  pub service : m.service ≡ u
  pub place : IsTrue (holds m l)

-- m is live at t, is a default and has service u
pub record StandsBy (t : Instant) (u : Service) (m : Mapping) : Type 0 where
  pub live : IsTrue (is_live m t)
  pub is_default : IsTrue m.is_default
  pub service : m.service ≡ u

-- no mapping of the book holds the place for service u, and no default stands by for it
abbrev pub NoHolder : Book → Instant → Place → Service → Type 0
NoHolder b t l u = AllByRecursion (λ m. ¬ HoldsHere t l u m) b.mappings

abbrev pub NoDefault : Book → Instant → Service → Type 0
NoDefault b t u = AllByRecursion (λ m. ¬ StandsBy t u m) b.mappings

-- ms are all mappings that hold the place for u, in list order, each once; no longer service of the chain has one
pub record AreTheHolders (b : Book) (t : Instant) (l : Place) (s u : Service) (ms : List Mapping) : Type 0 where
  pub of_chain : IsOfChain u s
  pub all_holders : Picks (HoldsHere t l u) b.mappings ms
  pub some_holder : ms ≢ []
  pub none_before : (v : Service) → IsOfChain v s → length u < length v → NoHolder b t l v

-- ms are all defaults that stand by for u; no longer service of the chain has one, and no service of the chain has a holder
pub record AreTheDefaults (b : Book) (t : Instant) (l : Place) (s u : Service) (ms : List Mapping) : Type 0 where
  pub of_chain : IsOfChain u s
  pub all_defaults : Picks (StandsBy t u) b.mappings ms
  pub some_default : ms ≢ []
  pub none_before : (v : Service) → IsOfChain v s → length u < length v → NoDefault b t v
  pub no_holder : (v : Service) → IsOfChain v s → NoHolder b t l v

-- no service of the chain has a holder, and none has a default
pub record IsNowhere (b : Book) (t : Instant) (l : Place) (s : Service) : Type 0 where
  pub no_holder : (v : Service) → IsOfChain v s → NoHolder b t l v
  pub no_default : (v : Service) → IsOfChain v s → NoDefault b t v

-- a finding is what is there
abbrev pub IsWhatIsThere : Book → Instant → Place → Service → Finding → Type 0
IsWhatIsThere b t l s (FoundHolders u ms) = AreTheHolders b t l s u ms
IsWhatIsThere b t l s (FoundDefaults u ms) = AreTheDefaults b t l s u ms
IsWhatIsThere b t l s FoundNothing = IsNowhere b t l s

-- what is found is what is there: live, of the chain, holding the place or a default, all of it, from the longest service that has any
abbrev pub FoundIsThere : Type 0
FoundIsThere = (b : Book) (t : Instant) (l : Place) (s : Service) → IsWhatIsThere b t l s (found b t l s)

-- where no live mapping of the chain holds the place and no default stands by, nothing is found
abbrev pub NothingWhereNothingIs : Type 0
NothingWhereNothingIs = (b : Book) (t : Instant) (l : Place) (s : Service) → IsNowhere b t l s → found b t l s ≡ FoundNothing

-- where the service is not implemented, nothing is found
abbrev pub NothingUnlessImplemented : Type 0
NothingUnlessImplemented = (b : Book) (t : Instant) (l : Place) (s : Service) → IsFalse (is_implemented b t s) → found b t l s ≡ FoundNothing

-- a service is implemented where, and only where, some live mapping has a service of the chain
pub record IsHere (t : Instant) (s : Service) (m : Mapping) : Type 0 where
  pub live : IsTrue (is_live m t)
  pub of_chain : IsOfChain m.service s

abbrev pub HereMeansImplemented : Type 0
HereMeansImplemented = (b : Book) (t : Instant) (s : Service) → IsFalse (is_implemented b t s) → AllByRecursion (λ m. ¬ IsHere t s m) b.mappings

abbrev pub ImplementedMeansHere : Type 0
ImplementedMeansHere = (b : Book) (t : Instant) (s : Service) → AllByRecursion (λ m. ¬ IsHere t s m) b.mappings → IsFalse (is_implemented b t s)

-- ---- edits elsewhere

-- an edit is of a mapping that has no service of the chain of s, before it and after it
abbrev pub IsElsewhere : Service → Book → Edit → Type 0
IsElsewhere s b (Publish m) = ¬ IsOfChain m.service s
IsElsewhere s b (Replace m) = (¬ IsOfChain m.service s) × IfSome (held b (identity_of m)) (λ old. ¬ IsOfChain old.service s)
IsElsewhere s b (Withdraw id stamp) = IfSome (held b id) (λ old. ¬ IsOfChain old.service s)

-- a reply with another edition, where it has one
abbrev pub with_edition : ℕ → Reply → Reply
with_edition n (FindServiceResponse edition id validation ms path warnings) = FindServiceResponse n id validation ms path warnings
with_edition n (ListServicesByLocationResponse edition id path services) = ListServicesByLocationResponse n id path services
with_edition n (ListServicesResponse edition path services) = ListServicesResponse n path services
with_edition n (GetServiceBoundaryResponse edition path regions) = GetServiceBoundaryResponse n path regions
with_edition n (Errors edition error) = Errors n error
with_edition n BadRequest = BadRequest
with_edition n InternalError = InternalError

-- an edit elsewhere changes no answer to findService but its edition
abbrev pub EditsElsewhereDoNotMatter : Type 0
EditsElsewhereDoNotMatter =
    (b : Book) (e : Edit) (name : Text) (t : Instant) (s : Service) (locations : List Location) (validate by_value : Bool) (path : List Text)
    → IsElsewhere s b e
    → answer (after b e) name t (FindService s locations validate by_value path)
    ≡ with_edition (after b e).edits (answer b name t (FindService s locations validate by_value path))
