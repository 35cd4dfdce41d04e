-- Rows of our own on edges that slope, on time, on keys, and on what each request lists and shows.
use Rattle.std.specs.Prelude.{◌≡◌, ℤ, Bool, true, false, List, [], ◌∷◌, Some, None, Ok, Err, pos, negsuc, codes}
use Rattle.lost_spec.specs.declared.faults.EditError.TheVariants.{IdentityHeld, NotNewer, KeyHeld, KeyUnchanged}
use Rattle.lost_spec.specs.declared.faults.MappingError.TheVariants.{BadExpires}
use Rattle.lost_spec.specs.declared.answers.AnswerError.TheVariants.{Loop, LocationProfileUnrecognized, LocationInvalid, NotFound, ServiceNotImplemented}
use Rattle.lost_spec.specs.declared.answers.Warning.TheVariants.{DefaultMappingReturned}
use Rattle.lost_spec.specs.Place.{RingRegion, PatternRegion, Body, PointBody, AddressBody, UnreadableBody}
use Rattle.lost_spec.specs.Text.{Text}
use Rattle.lost_spec.specs.Service.{Service}
use Rattle.lost_spec.specs.Ring.{inside}
use Rattle.lost_spec.specs.Moment.{Stamp}
use Rattle.lost_spec.specs.Mapping.{Parts, Mapping, NoCache, At, build}
use Rattle.lost_spec.specs.Book.{Book, Publish, Replace, Withdraw, refusal, book_of, is_accepted}
use Rattle.lost_spec.specs.Request.{Location, FindService, ListServicesByLocation, ListServices, GetServiceBoundary, FindServiceResponse, ListServicesByLocationResponse, ListServicesResponse, GetServiceBoundaryResponse, Errors}
use Rattle.lost_spec.specs.Examples.{points, second_day, sos, police, regions_with, mapping_with, mapping_on, renewed, ring_a, ring_b, mapping_a, mapping_b, mapping_t, wide_pattern, house_pattern, mapping_g, address_with, usual_limits, ask, geodetic, civic, location_at, at_point, at_address, find_at, query, services_at, own_path, by_reference, as_default, found_with, found_reply, validated}
use Rattle.lost_spec.specs.Rows.{published, parts_a, english, mapping_both, expiring, at_midnight, past_midnight}
use Rattle.lost_spec.specs.OwnRows.{called}

-- ---- edges that slope

abbrev pub is_in : List (ℤ × ℤ) → ℤ → ℤ → Bool
is_in ring lat lon = inside (points ring) (record { lat = lat; lon = lon })

-- a triangle that stands on its south edge
abbrev pub triangle : List (ℤ × ℤ)
triangle = (pos 0, pos 0) ∷ (pos 10, pos 10) ∷ (pos 0, pos 20) ∷ (pos 0, pos 0) ∷ []

-- a ring about the origin, whose four edges slope each in another direction, some steeply
abbrev pub kite : List (ℤ × ℤ)
kite = (negsuc 5, negsuc 4) ∷ (negsuc 1, pos 10) ∷ (pos 6, pos 5) ∷ (pos 4, negsuc 9) ∷ (negsuc 5, negsuc 4) ∷ []

-- just west of an edge, on it or just east of it, for each edge of the two rings
abbrev pub Slopes : Type 0
Slopes =
    (is_in triangle (pos 5) (pos 4) ≡ false)
    × (is_in triangle (pos 5) (pos 5) ≡ true)
    × (is_in triangle (pos 5) (pos 14) ≡ true)
    × (is_in triangle (pos 5) (pos 15) ≡ false)
    × (is_in kite (negsuc 3) (negsuc 6) ≡ false)
    × (is_in kite (negsuc 3) (negsuc 5) ≡ true)
    × (is_in kite (negsuc 3) (pos 2) ≡ true)
    × (is_in kite (negsuc 3) (pos 3) ≡ false)
    × (is_in kite (pos 2) (negsuc 9) ≡ false)
    × (is_in kite (pos 2) (negsuc 8) ≡ true)
    × (is_in kite (pos 2) (pos 7) ≡ true)
    × (is_in kite (pos 2) (pos 8) ≡ false)
    × (is_in kite (pos 5) (negsuc 2) ≡ false)
    × (is_in kite (pos 5) (negsuc 1) ≡ true)
    × (is_in kite (pos 5) (pos 5) ≡ true)
    × (is_in kite (pos 5) (pos 6) ≡ false)

-- ---- what becomes of parts

abbrev pub parts_in_full : Parts
parts_in_full = record parts_a {
  source = codes "MAP.Example";
  expires = codes "NO-CACHE";
  service = codes "urn:service:SOS.Police";
  uris = codes "SIP:A@map.example" ∷ codes "tel:112" ∷ [];
  number = Some (codes "112");
  regions = RingRegion ring_a ∷ PatternRegion wide_pattern ∷ RingRegion ring_b ∷ PatternRegion house_pattern ∷ [];
  display_names = english ∷ record { lang = codes "de"; text = codes "Polizei" } ∷ [];
}

-- the source and the service are in lower case, the regions are parted by their kinds, and all else is as given
abbrev pub KeptAsGiven : Type 0
KeptAsGiven =
    build parts_in_full
    ≡ Ok (record mapping_a {
      expires = NoCache;
      uris = codes "SIP:A@map.example" ∷ codes "tel:112" ∷ [];
      number = Some (codes "112");
      regions = regions_with (points ring_a ∷ points ring_b ∷ []) (wide_pattern ∷ house_pattern ∷ []);
      display_names = english ∷ record { lang = codes "de"; text = codes "Polizei" } ∷ [];
    })

-- ---- edits

-- a key that a replacement gives up is free, and so is that of a mapping that is withdrawn
abbrev pub FreedKey : Type 0
FreedKey =
    let other : Mapping = record mapping_b { key = Some (codes "A-1") } in
    (is_accepted usual_limits (Publish mapping_a ∷ Replace (renewed mapping_a second_day (codes "A-2") ring_a) ∷ Publish other ∷ []) ≡ true)
    × (is_accepted usual_limits (Publish mapping_a ∷ Withdraw (called (codes "A")) second_day ∷ Publish other ∷ []) ≡ true)

-- a replacement that changes patterns alone, by one or by the case of a value, wants a new key; one that changes no region does not
abbrev pub PatternChange : Type 0
PatternChange =
    let book : Book = book_of usual_limits (Publish mapping_g ∷ []) in
    let newer : Mapping = record mapping_g { stamp = second_day } in
    (refusal book (Replace (record newer { regions = regions_with [] (wide_pattern ∷ []) })) ≡ Some KeyUnchanged)
    × (refusal book (Replace (record newer { regions = regions_with [] (house_pattern ∷ wide_pattern ∷ []) })) ≡ Some KeyUnchanged)
    × (refusal book (Replace (record newer { regions = regions_with [] (((codes "A1", codes "nj") ∷ (codes "A3", codes "Leonia") ∷ (codes "country", codes "US") ∷ []) ∷ house_pattern ∷ []) })) ≡ Some KeyUnchanged)
    × (refusal book (Replace (record newer { regions = regions_with [] (wide_pattern ∷ []); key = Some (codes "G-2") })) ≡ None)
    × (refusal book (Replace (record newer { uris = codes "tel:112" ∷ [] })) ≡ None)

abbrev pub evening : Stamp
evening = record { text = codes "2025-12-01T23:00:00Z"; moment = record { day = pos 20_423; nanosecond = 82_800_000_000_000 } }

-- a later day is newer at an earlier hour
abbrev pub LaterDay : Type 0
LaterDay =
    (refusal (book_of usual_limits (Publish (record mapping_a { stamp = evening }) ∷ [])) (Withdraw (called (codes "A")) second_day) ≡ None)
    × (refusal (book_of usual_limits (Publish (record mapping_a { stamp = second_day }) ∷ [])) (Withdraw (called (codes "A")) evening) ≡ Some NotNewer)

-- ---- time

abbrev pub expired_t : Mapping
expired_t = record mapping_t { expires = At at_midnight }

-- a mapping that has expired answers no question, but its identity and its key are held; one of NO-CACHE is live
abbrev pub Expired : Type 0
Expired =
    let gone = published (expiring at_midnight ∷ []) in
    let here = published (expiring past_midnight ∷ []) in
    (ask gone (ListServices None []) ≡ ListServicesResponse 1 own_path [])
    × (ask here (ListServices None []) ≡ ListServicesResponse 1 own_path (sos ∷ []))
    × (ask gone (services_at None (pos 5_000_000) (pos 5_000_000)) ≡ ListServicesByLocationResponse 1 (codes "p") own_path [])
    × (ask here (services_at None (pos 5_000_000) (pos 5_000_000)) ≡ ListServicesByLocationResponse 1 (codes "p") own_path (sos ∷ []))
    × (ask gone (GetServiceBoundary (codes "A-1") []) ≡ Errors 1 NotFound)
    × (ask here (GetServiceBoundary (codes "A-1") []) ≡ GetServiceBoundaryResponse 1 own_path (regions_with (points ring_a ∷ []) []))
    × (ask (published (expired_t ∷ [])) (query police (pos 0) (pos 0)) ≡ Errors 1 ServiceNotImplemented)
    × (ask (published (record mapping_a { expires = NoCache } ∷ [])) (services_at None (pos 5_000_000) (pos 5_000_000)) ≡ ListServicesByLocationResponse 1 (codes "p") own_path (sos ∷ []))
    × (refusal (book_of usual_limits gone) (Publish mapping_a) ≡ Some IdentityHeld)
    × (refusal (book_of usual_limits gone) (Publish (record mapping_b { key = Some (codes "A-1") })) ≡ Some KeyHeld)

-- ---- validation

-- a mapping of a service that does not match the address of the civic row, and agrees with its valid elements
abbrev pub mapping_r : Service → Mapping
mapping_r service = mapping_with (codes "R") service [] (((codes "A1", codes "NJ") ∷ (codes "A3", codes "Leonia") ∷ (codes "FLR", codes "9") ∷ (codes "country", codes "US") ∷ []) ∷ [])

-- its pattern is a reference though it is not found, so that FLR is invalid; not if it is of another service, or has expired
abbrev pub OtherReference : Type 0
OtherReference =
    let validate = FindService police (at_address (address_with (codes "07605")) ∷ []) true false [] in
    let g = by_reference (codes "G-1") mapping_g ∷ [] in
    let valid = codes "country" ∷ codes "A1" ∷ codes "A3" ∷ [] in
    (ask (published (mapping_g ∷ mapping_r police ∷ [])) validate ≡ validated 2 g (codes "HNO" ∷ codes "FLR" ∷ []) (codes "PC" ∷ []) valid)
    × (ask (published (mapping_g ∷ mapping_r sos ∷ [])) validate ≡ validated 2 g (codes "HNO" ∷ []) (codes "FLR" ∷ codes "PC" ∷ []) valid)
    × (ask (published (mapping_g ∷ record (mapping_r police) { expires = At at_midnight } ∷ [])) validate
    ≡ validated 2 g (codes "HNO" ∷ []) (codes "FLR" ∷ codes "PC" ∷ []) valid)

-- ---- what each request lists and shows

-- a default has no boundary, by value too, and at a point there is no warning of validation
abbrev pub DefaultAsked : Type 0
DefaultAsked =
    let reply = found_with 1 (as_default mapping_t ∷ []) (DefaultMappingReturned ∷ []) in
    (ask (published (mapping_t ∷ [])) (FindService sos (at_point (pos 0) (pos 0) ∷ []) false true []) ≡ reply)
    × (ask (published (mapping_t ∷ [])) (FindService sos (at_point (pos 0) (pos 0) ∷ []) true false []) ≡ reply)

abbrev pub rail : Service
rail = codes "sos" ∷ codes "police" ∷ codes "rail" ∷ []

-- a service two labels below what is asked is listed by its first label below it, and each list is of what was asked
abbrev pub DeepServices : Type 0
DeepServices =
    let es = published (mapping_on (codes "R") rail ring_a ∷ []) in
    (ask es (ListServices None []) ≡ ListServicesResponse 1 own_path (sos ∷ []))
    × (ask es (ListServices (Some sos) []) ≡ ListServicesResponse 1 own_path (police ∷ []))
    × (ask es (ListServices (Some police) []) ≡ ListServicesResponse 1 own_path (rail ∷ []))
    × (ask es (ListServices (Some rail) []) ≡ ListServicesResponse 1 own_path [])
    × (ask es (services_at None (pos 5_000_000) (pos 5_000_000)) ≡ ListServicesByLocationResponse 1 (codes "p") own_path (sos ∷ []))

-- a boundary asked for by its key has the polygons and the patterns, and each kind of reply has the path of its request, in which any name may be a loop
abbrev pub Paths : Type 0
Paths =
    let es = published (mapping_both ∷ []) in
    let asked = codes "a.example" ∷ [] in
    let path = codes "a.example" ∷ codes "lost.example" ∷ [] in
    let here = at_point (pos 5_000_000) (pos 5_000_000) ∷ [] in
    (ask es (FindService police here false false asked) ≡ FindServiceResponse 1 (codes "p") None (by_reference (codes "A-1") mapping_both ∷ []) path [])
    × (ask es (ListServicesByLocation None here asked) ≡ ListServicesByLocationResponse 1 (codes "p") path (sos ∷ []))
    × (ask es (ListServices None asked) ≡ ListServicesResponse 1 path (sos ∷ []))
    × (ask es (GetServiceBoundary (codes "A-1") asked) ≡ GetServiceBoundaryResponse 1 path (regions_with (points ring_a ∷ []) (wide_pattern ∷ [])))
    × (ask es (ListServices None (codes "LOST.example" ∷ asked)) ≡ Errors 1 Loop)

-- polygons add up: a point is held by one of them, or by more
abbrev pub Additive : Type 0
Additive =
    let twice : Mapping = mapping_with (codes "A") police (points ring_a ∷ points ring_b ∷ points ring_a ∷ []) [] in
    let es = published (twice ∷ []) in
    let reply = found_reply 1 (by_reference (codes "A-1") twice ∷ []) in
    (ask es (query police (pos 5_000_000) (pos 5_000_000)) ≡ reply)
    × (ask es (query police (pos 5_000_000) (pos 15_000_000)) ≡ reply)
    × (ask es (query police (pos 5_000_000) (pos 25_000_000)) ≡ Errors 1 NotFound)

-- keys, sourceIds, profiles and the words of expiry are compared in exact case
abbrev pub ExactCase : Type 0
ExactCase =
    let es = published (mapping_a ∷ []) in
    (ask es (GetServiceBoundary (codes "a-1") []) ≡ Errors 1 NotFound)
    × (refusal (book_of usual_limits es) (Publish (record mapping_b { source_id = codes "a" })) ≡ None)
    × (refusal (book_of usual_limits es) (Publish (record mapping_b { key = Some (codes "a-1") })) ≡ None)
    × (ask es (find_at police (location_at (codes "p") (codes "Geodetic-2d") (PointBody (pos 5_000_000) (pos 5_000_000)) ∷ [])) ≡ Errors 1 LocationProfileUnrecognized)
    × (build (record parts_a { expires = codes "no-cache" }) ≡ Err BadExpires)

abbrev pub located : Text → Body → List Location
located profile body = location_at (codes "p") profile body ∷ []

-- a body that could not be read, or that is not of its profile's kind
abbrev pub UnfittingBodies : Type 0
UnfittingBodies =
    let es = published (mapping_both ∷ []) in
    (ask es (find_at police (located geodetic UnreadableBody)) ≡ Errors 1 LocationInvalid)
    × (ask es (find_at police (located civic UnreadableBody)) ≡ Errors 1 LocationInvalid)
    × (ask es (find_at police (located geodetic (AddressBody wide_pattern))) ≡ Errors 1 LocationInvalid)
    × (ask es (find_at police (located civic (PointBody (pos 5_000_000) (pos 5_000_000)))) ≡ Errors 1 LocationInvalid)
