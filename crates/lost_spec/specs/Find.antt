-- What is found at a place: the mappings that hold it, the defaults, and the first service of the chain that has any.
use Rattle.std.specs.Prelude.{Bool, not, ◌&&◌, if◌then◌else◌, List, [], ◌∷◌, ◌++◌, Option, Some, None, filter}
use Rattle.std.specs.List.{list_any}
use Rattle.lost_spec.specs.declared.answers.Warning.{Warning}
use Rattle.lost_spec.specs.declared.answers.Warning.TheVariants.{ServiceSubstitution, DefaultMappingReturned, LocationValidationUnavailable}
use Rattle.lost_spec.specs.Service.{Service, same_service, chain}
use Rattle.lost_spec.specs.Civic.{Pairs}
use Rattle.lost_spec.specs.Place.{Place, contains, address_at}
use Rattle.lost_spec.specs.Moment.{Instant}
use Rattle.lost_spec.specs.Mapping.{Mapping, is_live}
use Rattle.lost_spec.specs.Book.{Book}

-- a mapping holds a place: its regions contain it (RFC 5222, section 12.1)
abbrev pub holds : Mapping → Place → Bool
holds m l = contains m.regions l

-- a mapping is live at t and has service u
abbrev pub serves : Mapping → Instant → Service → Bool
serves m t u = is_live m t && same_service m.service u

-- a mapping is live at t, is no default, has service u and holds the place
abbrev pub is_holder : Instant → Place → Service → Mapping → Bool
is_holder t l u m = serves m t u && (not m.is_default && holds m l)

-- a mapping is live at t, is a default and has service u
abbrev pub is_standby : Instant → Service → Mapping → Bool
is_standby t u m = serves m t u && m.is_default

-- the mappings, in list order, that are live at t, are not defaults, have service u and hold the place (RFC 5222, section 8)
abbrev pub at : Book → Instant → Place → Service → List Mapping
at b t l u = filter (is_holder t l u) b.mappings

-- the live defaults of service u, in list order (own)
abbrev pub defaults : Book → Instant → Service → List Mapping
defaults b t u = filter (is_standby t u) b.mappings

-- what a search finds: mappings of a service that hold the place, defaults of a service, or nothing
pub data Finding : Type 0 where
  FoundHolders : (service : Service) (mappings : List Mapping) → Finding
  FoundDefaults : (service : Service) (mappings : List Mapping) → Finding
  FoundNothing : Finding

-- u with what it has, unless that is nothing
abbrev pub unless_empty : Service → List Mapping → Option (Service × List Mapping) → Option (Service × List Mapping)
unless_empty u [] later = later
unless_empty u (m ∷ ms) later = Some (u, m ∷ ms)

-- the first service of a list that has mappings, with them
abbrev pub first_with : (Service → List Mapping) → List Service → Option (Service × List Mapping)
first_with ask [] = None
first_with ask (u ∷ us) = unless_empty u (ask u) (first_with ask us)

-- holders where there are some, else defaults where there are some
abbrev pub finding : Option (Service × List Mapping) → Option (Service × List Mapping) → Finding
finding (Some holders) standing = FoundHolders holders.0 holders.1
finding None (Some standing) = FoundDefaults standing.0 standing.1
finding None None = FoundNothing

-- the first service of the chain of s with mappings that hold the place; else the first with live defaults (RFC 5222, section 8; policy own)
unfoldable pub found : Book → Instant → Place → Service → Finding
found b t l s = finding (first_with (at b t l) (chain s)) (first_with (defaults b t) (chain s))

-- a mapping is live at t and has a service of the chain of s
abbrev pub is_of_chain : Instant → Service → Mapping → Bool
is_of_chain t s m = is_live m t && list_any (λ u. same_service m.service u) (chain s)

-- some live mapping has a service of the chain of s (RFC 5222, section 13.1; reading own)
unfoldable pub is_implemented : Book → Instant → Service → Bool
is_implemented b t s = list_any (is_of_chain t s) b.mappings

-- ---- warnings (RFC 5222, section 13.2)

abbrev pub substitution_warnings : Service → Service → List Warning
substitution_warnings s u = if same_service s u then [] else ServiceSubstitution ∷ []

-- validation of an address was asked for, and can't be done for defaults
abbrev pub unavailable_warnings : Option Pairs → Bool → List Warning
unavailable_warnings None validate = []
unavailable_warnings (Some address) validate = if validate then LocationValidationUnavailable ∷ [] else []

-- the warnings of what was found for service s at a place, in their order
abbrev pub warnings_of : Service → Place → Bool → Finding → List Warning
warnings_of s l validate (FoundHolders u ms) = substitution_warnings s u
warnings_of s l validate (FoundDefaults u ms) = substitution_warnings s u ++ (DefaultMappingReturned ∷ unavailable_warnings (address_at l) validate)
warnings_of s l validate FoundNothing = []
