-- The answer to a request, found from scratch over a book.
use Rattle.std.specs.Prelude.{ℕ, Bool, not, ◌&&◌, if◌then◌else◌, List, [], ◌∷◌, ◌++◌, map, Option, Some, None, is_some, find}
use Rattle.std.specs.List.{list_any}
use Rattle.lost_spec.specs.declared.answers.AnswerError.{AnswerError}
use Rattle.lost_spec.specs.declared.answers.AnswerError.TheVariants.{Loop, LocationProfileUnrecognized, SrsInvalid, LocationInvalid, NotFound, ServiceNotImplemented}
use Rattle.lost_spec.specs.Text.{Text, same_ignoring_case}
use Rattle.lost_spec.specs.Service.{Service}
use Rattle.lost_spec.specs.Civic.{Pairs}
use Rattle.lost_spec.specs.Place.{Place, kind_of, has_system, place_in, kind_at, address_at, of_kind}
use Rattle.lost_spec.specs.Moment.{Instant}
use Rattle.lost_spec.specs.Mapping.{Mapping}
use Rattle.lost_spec.specs.Book.{Book}
use Rattle.lost_spec.specs.Find.{Finding, FoundHolders, FoundDefaults, FoundNothing, found, is_implemented, warnings_of}
use Rattle.lost_spec.specs.Validation.{Validation, validation}
use Rattle.lost_spec.specs.Services.{services, all_services, by_key}
use Rattle.lost_spec.specs.Request.{Location, Request, FindService, ListServicesByLocation, ListServices, GetServiceBoundary, Boundary, ByReference, ByValue, NoBoundary, ShownMapping, Reply, FindServiceResponse, ListServicesByLocationResponse, ListServicesResponse, GetServiceBoundaryResponse, Errors}

-- ---- the location used (RFC 5222, sections 8.3.1 and 12.1)

-- the first location with a profile that is known
abbrev pub location_used : List Location → Option Location
location_used locations = find (λ l. is_some (kind_of l.profile)) locations

-- the answer at a location's place, or that it has none
abbrev pub at_place : ℕ → Option Place → (Place → Reply) → Reply
at_place edition None answer = Errors edition LocationInvalid
at_place edition (Some l) answer = answer l

-- the answer at a location: its reference system is looked at if its kind has one
abbrev pub at_location : ℕ → Option Location → (Text → Place → Reply) → Reply
at_location edition None answer = Errors edition LocationProfileUnrecognized
at_location edition (Some location) answer =
    if has_system (kind_of location.profile) && not location.srs_known then Errors edition SrsInvalid
    else at_place edition (place_in (kind_of location.profile) location.body) (answer location.id)

-- ---- findService (RFC 5222, section 8)

-- the key of a mapping and its source, where it has a key
abbrev pub reference_of : Option Text → Text → Boundary
reference_of None source = NoBoundary
reference_of (Some key) source = ByReference key source

-- the regions of the kind of the place
abbrev pub value_shown : Place → Mapping → Boundary
value_shown l m = ByValue (of_kind (kind_at l) m.regions)

-- a boundary as the client prefers it, and none for a default (RFC 5222, section 8.3.4)
abbrev pub boundary_shown : Place → Bool → Mapping → Boundary
boundary_shown l by_value m =
    if m.is_default then NoBoundary else (if by_value then value_shown l m else reference_of m.key m.source)

abbrev pub shown : Place → Bool → Mapping → ShownMapping
shown l by_value m = record { mapping = m; boundary = boundary_shown l by_value m }

-- validation, where the place is an address, it is asked for, and what was found are no defaults
abbrev pub validation_for : Book → Instant → Option Pairs → Bool → Service → List Mapping → Option Validation
validation_for b t None validate u ms = None
validation_for b t (Some address) validate u ms = if validate then Some (validation b t u ms address) else None

-- the error where nothing is found (RFC 5222, section 13.1; reading own)
abbrev pub error_of : Bool → AnswerError
error_of implemented = if implemented then NotFound else ServiceNotImplemented

-- the reply for what was found for service s at a place
abbrev pub find_reply : Book → Instant → Service → Text → Place → Bool → Bool → List Text → Finding → Reply
find_reply b t s id l validate by_value path (FoundHolders u ms) =
    FindServiceResponse b.edits id (validation_for b t (address_at l) validate u ms) (map (shown l by_value) ms) path (warnings_of s l validate (FoundHolders u ms))
find_reply b t s id l validate by_value path (FoundDefaults u ms) =
    FindServiceResponse b.edits id None (map (shown l by_value) ms) path (warnings_of s l validate (FoundDefaults u ms))
find_reply b t s id l validate by_value path FoundNothing = Errors b.edits (error_of (is_implemented b t s))

-- ---- getServiceBoundary (RFC 5222, section 9)

abbrev pub boundary_reply : ℕ → List Text → Option Mapping → Reply
boundary_reply edition path None = Errors edition NotFound
boundary_reply edition path (Some m) = GetServiceBoundaryResponse edition path m.regions

-- ---- the answer

abbrev pub path_of : Request → List Text
path_of (FindService service locations validate by_value path) = path
path_of (ListServicesByLocation service locations path) = path
path_of (ListServices service path) = path
path_of (GetServiceBoundary key path) = path

-- the path has the server's name, ignoring ASCII case (RFC 5222, section 6)
abbrev pub is_loop : Text → List Text → Bool
is_loop name path = list_any (same_ignoring_case name) path

-- the answer by the kind of request; path is the one that the reply shows
abbrev pub answer_by_kind : Book → Instant → List Text → Request → Reply
answer_by_kind b t path (FindService s locations validate by_value asked) =
    at_location b.edits (location_used locations) (λ id l. find_reply b t s id l validate by_value path (found b t l s))
answer_by_kind b t path (ListServicesByLocation q locations asked) =
    at_location b.edits (location_used locations) (λ id l. ListServicesByLocationResponse b.edits id path (services b t l q))
answer_by_kind b t path (ListServices q asked) = ListServicesResponse b.edits path (all_services b t q)
answer_by_kind b t path (GetServiceBoundary key asked) = boundary_reply b.edits path (by_key b t key)

-- the answer of the server with this name at t, the first case that applies (RFC 5222; order own)
unfoldable pub answer : Book → Text → Instant → Request → Reply
answer b name t request =
    if is_loop name (path_of request) then Errors b.edits Loop
    else answer_by_kind b t (path_of request ++ name ∷ []) request
