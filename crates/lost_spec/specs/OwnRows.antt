-- More rows, of our own: what the worked rows leave open, above all which of several refusals comes first.
use Rattle.std.specs.Prelude.{◌≡◌, true, false, [], ◌∷◌, ◌++◌, Some, None, Ok, Err, pos, negsuc, replicate, codes}
use Rattle.lost_spec.specs.declared.faults.UrnError.TheVariants.{EmptyLabel, BadCharacter, HyphenAtEnd}
use Rattle.lost_spec.specs.declared.faults.GeoError.TheVariants.{Latitude, Longitude}
use Rattle.lost_spec.specs.declared.faults.RingError.TheVariants.{TooShort, NotClosed, TooLong}
use Rattle.lost_spec.specs.declared.faults.CivicError.TheVariants.{NoKnownElement, Repeated, TooLong as CivicTooLong, UnknownElement}
use Rattle.lost_spec.specs.declared.faults.MappingError.TheVariants.{BadSource, BadSourceId, BadStamp, BadExpires, BadService, BadUri, BadNumber, BadRegion, RegionMissing, TooLarge, BadKey}
use Rattle.lost_spec.specs.declared.faults.EditError.TheVariants.{IdentityHeld, IdentityUnknown, NotNewer, Full, EditsSpent}
use Rattle.lost_spec.specs.declared.answers.AnswerError.TheVariants.{Loop, LocationProfileUnrecognized, SrsInvalid, NotFound, ServiceNotImplemented}
use Rattle.lost_spec.specs.declared.answers.Warning.TheVariants.{DefaultMappingReturned}
use Rattle.lost_spec.specs.Place.{RingRegion, UnreadableRegion, PointBody, AddressBody}
use Rattle.lost_spec.specs.Text.{Text}
use Rattle.lost_spec.specs.Service.{read_service}
use Rattle.lost_spec.specs.Ring.{Point, point_fault, ring_fault}
use Rattle.lost_spec.specs.Civic.{Pairs, address_fault, pattern_fault, comparison_text}
use Rattle.lost_spec.specs.Mapping.{Parts, Mapping, build}
use Rattle.lost_spec.specs.Book.{Book, Identity, Publish, Replace, Withdraw, refusal, after, empty_book}
use Rattle.lost_spec.specs.Request.{Location, FindService, FindServiceResponse, Errors}
use Rattle.lost_spec.specs.Examples.{first_day, second_day, desk, sos, police, mapping_with, ring_a, mapping_a, mapping_b, mapping_c, mapping_t, mapping_g, address_with, ask, geodetic, civic, at_point, at_address, find_at, query, by_reference, shown_a, shown_c, as_default, found_reply, validated}
use Rattle.lost_spec.specs.Rows.{published, english}

-- ---- points, rings and pairs

abbrev pub pair : Text → Text × Text
pair name = (name, codes "1")

-- the first of several refusals of a point, a ring, an address and a pattern
abbrev pub FirstFaults : Type 0
FirstFaults =
    let corner : Point = record { lat = pos 0; lon = pos 0 } in
    let other : Point = record { lat = pos 0; lon = pos 1 } in
    let twice : Pairs = pair (codes "X") ∷ pair (codes "X") ∷ [] in
    (point_fault (pos 900_000_001) (negsuc 1_800_000_000) ≡ Some Latitude)
    × (point_fault (negsuc 899_999_999) (negsuc 1_800_000_000) ≡ Some Longitude)
    × (point_fault (pos 900_000_000) (negsuc 1_799_999_999) ≡ None)
    × (ring_fault (corner ∷ other ∷ other ∷ []) ≡ Some TooShort)
    × (ring_fault (corner ∷ replicate 4096 other) ≡ Some NotClosed)
    × (ring_fault (replicate 4097 corner) ≡ Some TooLong)
    × (ring_fault (replicate 4 corner) ≡ None)
    × (address_fault ((codes "X", replicate 513 97) ∷ twice) ≡ Some CivicTooLong)
    × (address_fault twice ≡ Some Repeated)
    × (address_fault (pair (codes "a1") ∷ []) ≡ Some NoKnownElement)
    × (address_fault (pair (codes "a1") ∷ pair (codes "A1") ∷ []) ≡ None)
    × (pattern_fault twice ≡ Some Repeated)
    × (pattern_fault (pair (codes "X") ∷ []) ≡ Some UnknownElement)
    × (pattern_fault (pair (codes "X") ∷ pair (codes "A1") ∷ []) ≡ Some UnknownElement)
    × (pattern_fault [] ≡ Some NoKnownElement)

-- a label's checks come before those of the next, and the number of labels last
abbrev pub LabelOrder : Type 0
LabelOrder =
    (read_service (codes "urn:service:-_") ≡ Err BadCharacter)
    × (read_service (codes "urn:service:-" ++ replicate 63 97) ≡ Err HyphenAtEnd)
    × (read_service (codes "urn:service:_.") ≡ Err BadCharacter)
    × (read_service (codes "urn:service:._") ≡ Err EmptyLabel)
    × (read_service (codes "urn:service:a.a.a.a.a.a.a.a._") ≡ Err BadCharacter)
    × (read_service (codes "urn:service:" ++ replicate 63 97) ≡ Ok (replicate 63 97 ∷ []))

-- runs of white space are one space, both ends are trimmed, and only ASCII letters are lowered
abbrev pub Comparison : Type 0
Comparison =
    (comparison_text (9 ∷ 13 ∷ 32 ∷ 76 ∷ 69 ∷ 10 ∷ 32 ∷ 195 ∷ 137 ∷ 11 ∷ []) ≡ 108 ∷ 101 ∷ 32 ∷ 195 ∷ 137 ∷ [])
    × (comparison_text (8 ∷ 14 ∷ []) ≡ 8 ∷ 14 ∷ [])
    × (comparison_text (32 ∷ 32 ∷ []) ≡ [])

-- ---- edits

-- a book with A that is full and one with A whose edits are spent
abbrev pub full_book : Book
full_book = after (empty_book (record { mappings = 1; edits = 9; traces = 9 })) (Publish mapping_a)

abbrev pub spent_book : Book
spent_book = after (empty_book (record { mappings = 9; edits = 1; traces = 9 })) (Publish mapping_a)

abbrev pub called : Text → Identity
called x = record { source = desk; source_id = x }

-- the refusals of an edit come in their order, also of a withdrawal
abbrev pub EditOrder : Type 0
EditOrder =
    (refusal spent_book (Publish mapping_a) ≡ Some EditsSpent)
    × (refusal spent_book (Replace mapping_b) ≡ Some EditsSpent)
    × (refusal spent_book (Withdraw (called (codes "B")) first_day) ≡ Some EditsSpent)
    × (refusal full_book (Publish mapping_a) ≡ Some IdentityHeld)
    × (refusal full_book (Publish (record mapping_b { key = Some (codes "A-1") })) ≡ Some Full)
    × (refusal full_book (Withdraw (called (codes "B")) second_day) ≡ Some IdentityUnknown)
    × (refusal full_book (Withdraw (called (codes "A")) first_day) ≡ Some NotNewer)
    × (refusal full_book (Withdraw (record { source = codes "other.example"; source_id = codes "A" }) second_day) ≡ Some IdentityUnknown)

-- ---- what a desk hands in

-- parts in which each thing is wrong
abbrev pub parts_of_faults : Parts
parts_of_faults = record {
  source = codes "a..b";
  source_id = [];
  last_updated = codes "today";
  expires = codes "never";
  service = codes "sos";
  uris = [];
  number = Some [];
  regions = UnreadableRegion ∷ [];
  is_default = true;
  display_names = replicate 17 english;
  key = Some (codes "T-1");
}

-- as one thing after another is put right, the next refusal comes
abbrev pub DeskOrder : Type 0
DeskOrder =
    let source = record parts_of_faults { source = desk } in
    let source_id = record source { source_id = codes "T" } in
    let stamp = record source_id { last_updated = codes "2025-12-01T00:00:00Z" } in
    let expires = record stamp { expires = codes "NO-EXPIRATION" } in
    let service = record expires { service = codes "urn:service:sos" } in
    let uris = record service { uris = codes "sip:T@map.example" ∷ [] } in
    let number = record uris { number = None } in
    let region = record number { regions = RingRegion ring_a ∷ [] } in
    let regions = record region { regions = [] } in
    let names = record regions { display_names = [] } in
    let key = record names { key = None } in
    (build parts_of_faults ≡ Err BadSource)
    × (build source ≡ Err BadSourceId)
    × (build source_id ≡ Err BadStamp)
    × (build stamp ≡ Err BadExpires)
    × (build expires ≡ Err BadService)
    × (build service ≡ Err BadUri)
    × (build uris ≡ Err BadNumber)
    × (build number ≡ Err BadRegion)
    × (build region ≡ Err RegionMissing)
    × (build regions ≡ Err TooLarge)
    × (build names ≡ Err BadKey)
    × (build key ≡ Ok mapping_t)

-- ---- answers

-- of the locations known the first is used; a loop comes before a profile, and a profile before a reference system
abbrev pub AnswerOrder : Type 0
AnswerOrder =
    let es = published (mapping_a ∷ mapping_g ∷ []) in
    let strange : Location = record { id = codes "s"; profile = codes "x-unknown"; srs_known = false; body = PointBody (pos 0) (pos 0) } in
    let other_system : Location = record { id = codes "p"; profile = geodetic; srs_known = false; body = PointBody (pos 900_000_001) (pos 0) } in
    let civic_in_other_system : Location = record { id = codes "p"; profile = civic; srs_known = false; body = AddressBody (address_with (codes "07605")) } in
    (ask es (FindService police (strange ∷ []) false false (codes "LOST.example" ∷ [])) ≡ Errors 2 Loop)
    × (ask es (find_at police (strange ∷ [])) ≡ Errors 2 LocationProfileUnrecognized)
    × (ask es (find_at police (other_system ∷ [])) ≡ Errors 2 SrsInvalid)
    × (ask es (find_at police (civic_in_other_system ∷ [])) ≡ found_reply 2 (by_reference (codes "G-1") mapping_g ∷ []))
    × (ask es (find_at police (at_point (pos 5_000_000) (pos 5_000_000) ∷ civic_in_other_system ∷ [])) ≡ found_reply 2 (shown_a ∷ []))

-- the longest service of the chain with a holder is found, and a default only where no service has a holder
abbrev pub LongestFirst : Type 0
LongestFirst =
    let es = published (mapping_c ∷ mapping_a ∷ mapping_t ∷ []) in
    (ask es (query police (pos 5_000_000) (pos 5_000_000)) ≡ found_reply 3 (shown_a ∷ []))
    × (ask es (query sos (pos 5_000_000) (pos 5_000_000)) ≡ found_reply 3 (shown_c ∷ []))
    × (ask es (query sos (pos 50_000_000) (pos 50_000_000)) ≡ FindServiceResponse 3 (codes "p") None (as_default mapping_t ∷ []) (codes "lost.example" ∷ []) (DefaultMappingReturned ∷ []))
    × (ask (published (mapping_c ∷ [])) (query police (pos 50_000_000) (pos 50_000_000)) ≡ Errors 1 NotFound)
    × (ask (published (mapping_a ∷ [])) (query sos (pos 5_000_000) (pos 5_000_000)) ≡ Errors 1 ServiceNotImplemented)

-- ---- validation

-- a mapping of the same service in another state
abbrev pub mapping_h : Mapping
mapping_h = mapping_with (codes "H") police [] (((codes "A1", codes "NY") ∷ (codes "FLR", codes "3") ∷ (codes "country", codes "US") ∷ []) ∷ [])

-- a pattern that disagrees with a valid element is no reference, so that what it alone names stays unchecked
abbrev pub ReferencePatterns : Type 0
ReferencePatterns =
    ask (published (mapping_g ∷ mapping_h ∷ [])) (FindService police (at_address (address_with (codes "07605")) ∷ []) true false [])
    ≡ validated 2 (by_reference (codes "G-1") mapping_g ∷ []) (codes "HNO" ∷ []) (codes "FLR" ∷ codes "PC" ∷ []) (codes "country" ∷ codes "A1" ∷ codes "A3" ∷ [])

-- names come in the order of the elements, and unknown ones after them by their bytes, however the address has them
abbrev pub NameOrder : Type 0
NameOrder =
    ask (published (mapping_g ∷ []))
    (FindService police (at_address (pair (codes "z") ∷ pair (codes "SEAT") ∷ pair (codes "Z") ∷ pair (codes "FLR") ∷ (codes "A3", codes "LEONIA") ∷ (codes "country", codes "us") ∷ (codes "A1", codes "nj") ∷ []) ∷ []) true false [])
    ≡ validated 1 (by_reference (codes "G-1") mapping_g ∷ []) [] (codes "FLR" ∷ codes "SEAT" ∷ codes "Z" ∷ codes "z" ∷ []) (codes "country" ∷ codes "A1" ∷ codes "A3" ∷ [])
