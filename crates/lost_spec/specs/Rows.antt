-- The worked rows that need no text of JSON, each as a fact that holds by computing. docs/EXAMPLES.md has them in full.
use Rattle.std.specs.Prelude.{◌≡◌, true, false, List, [], ◌∷◌, ◌++◌, map, length, take, Some, None, Ok, Err, pos, negsuc, replicate, codes}
use Rattle.lost_spec.specs.declared.faults.UrnError.TheVariants.{Prefix, EmptyLabel, BadCharacter, HyphenAtEnd, LabelTooLong, TooManyLabels}
use Rattle.lost_spec.specs.declared.faults.MappingError.TheVariants.{BadUri, BadNumber, BadRegion, RegionMissing, TooLarge, BadKey}
use Rattle.lost_spec.specs.declared.faults.EditError.TheVariants.{IdentityHeld, IdentityUnknown, NotNewer, KeyHeld, KeyUnchanged, Full, EditsSpent}
use Rattle.lost_spec.specs.declared.answers.AnswerError.TheVariants.{Loop, LocationProfileUnrecognized, SrsInvalid, LocationInvalid, NotFound, ServiceNotImplemented}
use Rattle.lost_spec.specs.declared.answers.Warning.TheVariants.{ServiceSubstitution, DefaultMappingReturned, LocationValidationUnavailable}
use Rattle.lost_spec.specs.Place.{RingRegion, PatternRegion, UnreadableBody, PointBody, no_regions}
use Rattle.lost_spec.specs.Text.{lowered}
use Rattle.lost_spec.specs.Service.{read_service, service_text, chain}
use Rattle.lost_spec.specs.Moment.{Stamp, read_stamp}
use Rattle.lost_spec.specs.Mapping.{DisplayName, Parts, Mapping, At, is_source, build}
use Rattle.lost_spec.specs.Book.{Book, Edit, Publish, Replace, Withdraw, limits_of, refusal, after, empty_book, book_of, is_accepted}
use Rattle.lost_spec.specs.Request.{FindService, ListServices, GetServiceBoundary, ByValue, FindServiceResponse, ListServicesByLocationResponse, ListServicesResponse, GetServiceBoundaryResponse, Errors}
use Rattle.lost_spec.specs.Examples.{points, december, first_day, second_day, third_day, fourth_day, desk, sos, police, parts_of, regions_with, mapping_with, mapping_on, renewed, ring_a, ring_b, world_ring, far_ring, wide_ring, mapping_a, mapping_b, mapping_c, mapping_d, mapping_t, wide_pattern, house_pattern, mapping_g, address_with, usual_limits, ask, geodetic, location_at, at_point, at_address, find_at, query, services_at, own_path, by_reference, by_polygons, as_default, shown_a, shown_b, shown_c, shown_d, found_with, found_reply, validated}

-- the edits that publish mappings, in order
abbrev pub published : List Mapping → List Edit
published ms = map Publish ms

-- ---- texts

-- which texts are service URNs, the first refusal of those that are not, and the text, the depth and the parts of a service
abbrev pub Urn : Type 0
Urn =
    (read_service (codes "urn:service:") ≡ Err EmptyLabel)
    × (read_service (codes "sos") ≡ Err Prefix)
    × (read_service (codes "urn:service:so_s") ≡ Err BadCharacter)
    × (read_service (codes "urn:service:sos.-x") ≡ Err HyphenAtEnd)
    × (read_service (codes "urn:service:" ++ replicate 64 97) ≡ Err LabelTooLong)
    × (read_service (codes "urn:service:a.a.a.a.a.a.a.a.a") ≡ Err TooManyLabels)
    × (read_service (codes "urn:service:SOS.Police") ≡ Ok police)
    × (service_text police ≡ codes "urn:service:sos.police")
    × (length police ≡ 2)
    × (service_text (take 1 police) ≡ codes "urn:service:sos")
    × (chain police ≡ police ∷ sos ∷ [])

-- which texts are stamps and sources, and the instant of a stamp
abbrev pub Stamps : Type 0
Stamps =
    (read_stamp (codes "2026-02-29T00:00:00Z") ≡ None)
    × (read_stamp (codes "2026-01-01T00:00:60Z") ≡ None)
    × (read_stamp (codes "2026-01-01T00:00:00+00:00") ≡ None)
    × (read_stamp (codes "0000-01-01T00:00:00Z") ≡ None)
    × (read_stamp (codes "2024-02-29T23:59:59.123456789Z")
    ≡ Some (record { text = codes "2024-02-29T23:59:59.123456789Z"; moment = record { day = pos 19_782; nanosecond = 86_399_123_456_789 } }))
    × (is_source (codes "Map.Example") ≡ true)
    × (lowered (codes "Map.Example") ≡ codes "map.example")
    × (is_source (codes "a..b") ≡ false)

-- ---- points

-- a server with no edits implements nothing
abbrev pub Empty : Type 0
Empty = ask [] (query police (pos 5_000_000) (pos 5_000_000)) ≡ Errors 0 ServiceNotImplemented

-- a mapping is handed in, accepted, and found
abbrev pub OneMapping : Type 0
OneMapping =
    (build (parts_of (codes "A") (codes "urn:service:sos.police") (RingRegion ring_a ∷ [])) ≡ Ok mapping_a)
    × (is_accepted usual_limits (published (mapping_a ∷ [])) ≡ true)
    × (ask (published (mapping_a ∷ [])) (query police (pos 5_000_000) (pos 5_000_000)) ≡ found_reply 1 (shown_a ∷ []))

-- a mapping that is staged and not published is not found: the answer is for the published list, which is empty
abbrev pub StagedOnly : Type 0
StagedOnly =
    (refusal (book_of usual_limits []) (Publish mapping_a) ≡ None)
    × (ask [] (query police (pos 5_000_000) (pos 5_000_000)) ≡ Errors 0 ServiceNotImplemented)

-- a point on the edge that two areas share is in the area to its right
abbrev pub SharedEdge : Type 0
SharedEdge =
    (is_accepted usual_limits (published (mapping_a ∷ mapping_b ∷ [])) ≡ true)
    × (ask (published (mapping_a ∷ mapping_b ∷ [])) (query police (pos 5_000_000) (pos 10_000_000)) ≡ found_reply 2 (shown_b ∷ []))

-- the upper edge does not belong to an area, and the lower left corner does
abbrev pub OuterEdge : Type 0
OuterEdge =
    (ask (published (mapping_a ∷ [])) (query police (pos 10_000_000) (pos 5_000_000)) ≡ Errors 1 NotFound)
    × (ask (published (mapping_a ∷ [])) (query police (pos 0) (pos 0)) ≡ found_reply 1 (shown_a ∷ []))

abbrev pub mapping_w : Mapping
mapping_w = mapping_on (codes "W") sos world_ring

-- the pole and the last meridian are in the world; past them, and in another reference system, there is no place
abbrev pub Poles : Type 0
Poles =
    let world = published (mapping_w ∷ []) in
    let reply = found_reply 1 (by_reference (codes "W-1") mapping_w ∷ []) in
    (ask world (query sos (pos 900_000_000) (pos 0)) ≡ reply)
    × (ask world (query sos (pos 0) (pos 1_800_000_000)) ≡ reply)
    × (ask world (query sos (pos 900_000_001) (pos 0)) ≡ Errors 1 LocationInvalid)
    × (ask world (find_at sos (record { id = codes "p"; profile = geodetic; srs_known = false; body = PointBody (pos 0) (pos 0) } ∷ [])) ≡ Errors 1 SrsInvalid)

-- where nothing has the service asked for, the service above it is found, with a warning
abbrev pub Fallback : Type 0
Fallback =
    (read_service (codes "URN:SERVICE:SOS.Fire") ≡ Ok (codes "sos" ∷ codes "fire" ∷ []))
    × (ask (published (mapping_a ∷ mapping_b ∷ mapping_c ∷ [])) (query (codes "sos" ∷ codes "fire" ∷ []) (pos 5_000_000) (pos 5_000_000))
    ≡ found_with 3 (shown_c ∷ []) (ServiceSubstitution ∷ []))

-- a default is found where nothing holds the place; it has no boundary and can't be validated, and its service is listed by listServices alone
abbrev pub Defaults : Type 0
Defaults =
    let es = published (mapping_t ∷ []) in
    (build (record (parts_of (codes "T") (codes "urn:service:sos") []) { is_default = true; key = None }) ≡ Ok mapping_t)
    × (ask es (query police (pos 0) (pos 0)) ≡ found_with 1 (as_default mapping_t ∷ []) (ServiceSubstitution ∷ DefaultMappingReturned ∷ []))
    × (ask es (FindService police (at_address ((codes "A1", codes "NJ") ∷ []) ∷ []) true false [])
    ≡ found_with 1 (as_default mapping_t ∷ []) (ServiceSubstitution ∷ DefaultMappingReturned ∷ LocationValidationUnavailable ∷ []))
    × (ask es (services_at None (pos 0) (pos 0)) ≡ ListServicesByLocationResponse 1 (codes "p") own_path [])
    × (ask es (ListServices None []) ≡ ListServicesResponse 1 own_path (sos ∷ []))

-- a location of a profile that is not known is passed over
abbrev pub Profiles : Type 0
Profiles =
    let unknown = location_at (codes "u") (codes "x-unknown") UnreadableBody in
    (ask (published (mapping_a ∷ [])) (find_at police (unknown ∷ at_point (pos 5_000_000) (pos 5_000_000) ∷ [])) ≡ found_reply 1 (shown_a ∷ []))
    × (ask (published (mapping_a ∷ [])) (find_at police (unknown ∷ [])) ≡ Errors 1 LocationProfileUnrecognized)

-- ---- edits

abbrev pub far_a : Mapping
far_a = renewed mapping_a second_day (codes "A-2") far_ring

abbrev pub wide_a : Mapping
wide_a = renewed mapping_a third_day (codes "A-3") wide_ring

abbrev pub without_d : Edit
without_d = Withdraw (record { source = desk; source_id = codes "D" }) fourth_day

-- a replacement keeps its place in the list, and a withdrawal closes up
abbrev pub ReplaceWithdraw : Type 0
ReplaceWithdraw =
    let two = published (mapping_a ∷ mapping_d ∷ []) in
    let q = query police (pos 5_000_000) (pos 5_000_000) in
    (is_accepted usual_limits (two ++ Replace far_a ∷ Replace wide_a ∷ without_d ∷ []) ≡ true)
    × (ask two q ≡ found_reply 2 (shown_a ∷ shown_d ∷ []))
    × (ask (two ++ Replace far_a ∷ []) q ≡ found_reply 3 (shown_d ∷ []))
    × (ask (two ++ Replace far_a ∷ Replace wide_a ∷ []) q ≡ found_reply 4 (by_reference (codes "A-3") wide_a ∷ shown_d ∷ []))
    × (ask (two ++ Replace far_a ∷ Replace wide_a ∷ without_d ∷ []) q ≡ found_reply 5 (by_reference (codes "A-3") wide_a ∷ []))

-- the book with A alone, and with A and B
abbrev pub book_a : Book
book_a = book_of usual_limits (published (mapping_a ∷ []))

abbrev pub book_ab : Book
book_ab = book_of usual_limits (published (mapping_a ∷ mapping_b ∷ []))

-- each refusal of an edit, and that it leaves the book as it was
abbrev pub Refusals : Type 0
Refusals =
    (read_stamp (codes "2025-12-01T00:00:00.0Z") ≡ Some (december (codes "2025-12-01T00:00:00.0Z") (pos 20_423)))
    × (refusal book_a (Replace (renewed mapping_a (december (codes "2025-12-01T00:00:00.0Z") (pos 20_423)) (codes "A-1") ring_a)) ≡ Some NotNewer)
    × (refusal book_a (Replace (renewed mapping_a second_day (codes "A-1") ring_b)) ≡ Some KeyUnchanged)
    × (refusal book_a (Publish mapping_a) ≡ Some IdentityHeld)
    × (refusal book_a (Replace mapping_b) ≡ Some IdentityUnknown)
    × (refusal book_a (Publish (record mapping_b { key = Some (codes "A-1") })) ≡ Some KeyHeld)
    × (after book_a (Publish mapping_a) ≡ book_a)
    × (book_a.edits ≡ 1)

-- a stamp that is not newer comes before a key that is held; a key that another mapping has is refused; a new key with old regions is accepted
abbrev pub ReplaceCodes : Type 0
ReplaceCodes =
    (refusal book_ab (Replace (renewed mapping_a first_day (codes "B-1") ring_a)) ≡ Some NotNewer)
    × (refusal book_ab (Replace (renewed mapping_a second_day (codes "B-1") ring_a)) ≡ Some KeyHeld)
    × (refusal book_ab (Replace (renewed mapping_a second_day (codes "A-9") ring_a)) ≡ None)

-- a replacement by a default is accepted, since the key changes with the regions
abbrev pub ReplaceByDefault : Type 0
ReplaceByDefault = refusal book_a (Replace (record mapping_a { stamp = second_day; regions = no_regions; is_default = true; key = None })) ≡ None

-- the limits of a book, and the limits that are allowed
abbrev pub LimitsRow : Type 0
LimitsRow =
    let small = empty_book (record { mappings = 1; edits = 2; traces = 65_536 }) in
    let one = after small (Publish mapping_a) in
    let withdrawal = Withdraw (record { source = desk; source_id = codes "A" }) second_day in
    (limits_of 1 2 ≡ Some (record { mappings = 1; edits = 2; traces = 65_536 }))
    × (refusal small (Publish mapping_a) ≡ None)
    × (refusal one (Publish mapping_b) ≡ Some Full)
    × (refusal one withdrawal ≡ None)
    × (refusal (after one withdrawal) (Publish mapping_b) ≡ Some EditsSpent)
    × (limits_of 0 1 ≡ None)
    × (limits_of 65_537 1 ≡ None)
    × (limits_of 1 0 ≡ None)
    × (limits_of 65_536 4_294_967_295 ≡ Some usual_limits)

-- ---- what a desk hands in

abbrev pub parts_a : Parts
parts_a = parts_of (codes "A") (codes "urn:service:sos.police") (RingRegion ring_a ∷ [])

abbrev pub english : DisplayName
english = record { lang = codes "en"; text = codes "Police" }

-- a bad number, a default with a region, a missing region, too many names, a missing key
abbrev pub DeskCodes : Type 0
DeskCodes =
    (build (record parts_a { number = Some (codes "112a") }) ≡ Err BadNumber)
    × (build (record parts_a { is_default = true }) ≡ Err RegionMissing)
    × (build (record parts_a { key = None }) ≡ Err BadKey)
    × (build (record parts_a { regions = [] }) ≡ Err RegionMissing)
    × (build (record parts_a { display_names = replicate 17 english }) ≡ Err TooLarge)

-- no URI, two of one scheme, a ring of three positions
abbrev pub BadLines : Type 0
BadLines =
    (build (record parts_a { uris = [] }) ≡ Err BadUri)
    × (build (record parts_a { uris = codes "sip:a@map.example" ∷ codes "SIP:b@map.example" ∷ [] }) ≡ Err BadUri)
    × (build (record parts_a { regions = RingRegion ((pos 0, pos 0) ∷ (pos 0, pos 1) ∷ (pos 0, pos 0) ∷ []) ∷ [] }) ≡ Err BadRegion)

-- a pattern with no element, with an unknown one, and too many patterns
abbrev pub BadPatterns : Type 0
BadPatterns =
    (build (record parts_a { regions = PatternRegion [] ∷ [] }) ≡ Err BadRegion)
    × (build (record parts_a { regions = PatternRegion ((codes "X", codes "1") ∷ []) ∷ [] }) ≡ Err BadRegion)
    × (build (record parts_a { regions = replicate 257 (PatternRegion ((codes "A1", codes "NJ") ∷ [])) }) ≡ Err TooLarge)

-- ---- civic addresses

-- an address is found by a pattern, and validated; one with no known element is no place
abbrev pub CivicRow : Type 0
CivicRow =
    let es = published (mapping_g ∷ []) in
    let g = by_reference (codes "G-1") mapping_g ∷ [] in
    (build (parts_of (codes "G") (codes "urn:service:sos.police") (PatternRegion wide_pattern ∷ PatternRegion house_pattern ∷ [])) ≡ Ok mapping_g)
    × (ask es (FindService police (at_address (address_with (codes "07605")) ∷ []) true false [])
    ≡ validated 1 g (codes "HNO" ∷ []) (codes "FLR" ∷ codes "PC" ∷ []) (codes "country" ∷ codes "A1" ∷ codes "A3" ∷ []))
    × (ask es (FindService police (at_address (address_with (codes "99999")) ∷ []) true false [])
    ≡ validated 1 g (codes "HNO" ∷ codes "PC" ∷ []) (codes "FLR" ∷ []) (codes "country" ∷ codes "A1" ∷ codes "A3" ∷ []))
    × (ask es (find_at police (at_address ((codes "X", codes "1") ∷ []) ∷ [])) ≡ Errors 1 LocationInvalid)

-- the same without validation
abbrev pub UnaskedValidation : Type 0
UnaskedValidation =
    ask (published (mapping_g ∷ [])) (find_at police (at_address (address_with (codes "07605")) ∷ []))
    ≡ found_reply 1 (by_reference (codes "G-1") mapping_g ∷ [])

-- a point is not validated
abbrev pub ValidateAPoint : Type 0
ValidateAPoint =
    ask (published (mapping_a ∷ [])) (FindService police (at_point (pos 5_000_000) (pos 5_000_000) ∷ []) true false [])
    ≡ found_reply 1 (shown_a ∷ [])

abbrev pub mapping_both : Mapping
mapping_both = mapping_with (codes "A") police (points ring_a ∷ []) (wide_pattern ∷ [])

-- a mapping with regions of both profiles is found by either, and shown by those of the location used
abbrev pub TwoProfiles : Type 0
TwoProfiles =
    let es = published (mapping_both ∷ []) in
    (ask es (FindService police (at_point (pos 5_000_000) (pos 5_000_000) ∷ []) false true []) ≡ found_reply 1 (by_polygons (points ring_a ∷ []) mapping_both ∷ []))
    × (ask es (FindService police (at_address (address_with (codes "07605")) ∷ []) false true [])
    ≡ found_reply 1 (record { mapping = mapping_both; boundary = ByValue (regions_with [] (wide_pattern ∷ [])) } ∷ []))

-- ---- time

abbrev pub expiring : Stamp → Mapping
expiring stamp = record mapping_a { expires = At stamp }

abbrev pub at_midnight : Stamp
at_midnight = december (codes "2026-01-01T00:00:00Z") (pos 20_454)

abbrev pub past_midnight : Stamp
past_midnight = record { text = codes "2026-01-01T00:00:00.000000001Z"; moment = record { day = pos 20_454; nanosecond = 1 } }

-- a mapping is live before the instant at which it expires, and not at it
abbrev pub Expiry : Type 0
Expiry =
    let q = query police (pos 5_000_000) (pos 5_000_000) in
    (build (record parts_a { expires = codes "2026-01-01T00:00:00Z" }) ≡ Ok (expiring at_midnight))
    × (ask (published (expiring at_midnight ∷ [])) q ≡ Errors 1 ServiceNotImplemented)
    × (build (record parts_a { expires = codes "2026-01-01T00:00:00.000000001Z" }) ≡ Ok (expiring past_midnight))
    × (ask (published (expiring past_midnight ∷ [])) q ≡ found_reply 1 (by_reference (codes "A-1") (expiring past_midnight) ∷ []))

-- ---- boundaries, paths and services

-- a boundary by its key and by value; the path grows by the server's name, and ends at a loop
abbrev pub BoundaryAndPath : Type 0
BoundaryAndPath =
    let es = published (mapping_a ∷ []) in
    let here = at_point (pos 5_000_000) (pos 5_000_000) ∷ [] in
    (ask es (GetServiceBoundary (codes "A-1") []) ≡ GetServiceBoundaryResponse 1 own_path (regions_with (points ring_a ∷ []) []))
    × (ask es (GetServiceBoundary (codes "none") []) ≡ Errors 1 NotFound)
    × (ask es (FindService police here false false (codes "Lost.Example" ∷ [])) ≡ Errors 1 Loop)
    × (ask es (FindService police here false false (codes "a.example" ∷ []))
    ≡ FindServiceResponse 1 (codes "p") None (shown_a ∷ []) (codes "a.example" ∷ codes "lost.example" ∷ []) [])
    × (ask es (FindService police here false true []) ≡ found_reply 1 (by_polygons (points ring_a ∷ []) mapping_a ∷ []))

-- the services one label below what is asked, at a place
abbrev pub ServicesByLocation : Type 0
ServicesByLocation =
    let es = published (mapping_a ∷ mapping_b ∷ mapping_c ∷ []) in
    (ask es (services_at (Some sos) (pos 5_000_000) (pos 5_000_000)) ≡ ListServicesByLocationResponse 3 (codes "p") own_path (police ∷ []))
    × (ask es (services_at None (pos 5_000_000) (pos 5_000_000)) ≡ ListServicesByLocationResponse 3 (codes "p") own_path (sos ∷ []))
    × (ask es (services_at (Some police) (pos 5_000_000) (pos 5_000_000)) ≡ ListServicesByLocationResponse 3 (codes "p") own_path [])
    × (ask es (services_at (Some sos) (negsuc 0) (negsuc 0)) ≡ ListServicesByLocationResponse 3 (codes "p") own_path [])
