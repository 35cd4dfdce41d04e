-- Rows of tokens: what lies just within each bound and just past it, and what a mapping with token sets is found by and shown with.
use Rattle.std.specs.Prelude.{◌≡◌, ℕ, true, false, List, [], ◌∷◌, ◌++◌, map, replicate, Some, None, Ok, Err, pos, codes}
use Rattle.std.specs.List.{range_with_len}
use Rattle.lost_spec.specs.declared.faults.EditError.TheVariants.{KeyUnchanged}
use Rattle.lost_spec.specs.declared.faults.MappingError.TheVariants.{BadRegion, TooLarge}
use Rattle.lost_spec.specs.declared.answers.AnswerError.TheVariants.{LocationInvalid, NotFound}
use Rattle.lost_spec.specs.Text.{Text}
use Rattle.lost_spec.specs.Token.{is_token, is_token_set, contains_token}
use Rattle.lost_spec.specs.Place.{Regions, PointBody, AddressBody, TokenBody, Region, RingRegion, PatternRegion, TokenRegion}
use Rattle.lost_spec.specs.Mapping.{Mapping, build, parts_fault}
use Rattle.lost_spec.specs.Book.{Book, Publish, Replace, refusal, book_of}
use Rattle.lost_spec.specs.Request.{FindService, GetServiceBoundary, ByValue, GetServiceBoundaryResponse, Reply, Errors}
use Rattle.lost_spec.specs.Examples.{points, second_day, police, parts_of, regions_with, mapping_with, ring_a, wide_pattern, address_with, usual_limits, ask, geodetic, civic, x_token, location_at, at_point, at_address, at_token, find_at, own_path, by_reference, found_reply}
use Rattle.lost_spec.specs.Rows.{published, parts_a}
use Rattle.lost_spec.specs.BoundRows.{letters}

-- n texts of one byte each, which are all different: the bytes from 33 on
abbrev pub single_bytes : ℕ → List Text
single_bytes n = map (λ b. b ∷ []) (range_with_len 33 n)

-- the longest token and a longer text, the empty text, and the bytes that no token has
abbrev pub TokenBounds : Type 0
TokenBounds =
    (is_token (letters 128) ≡ true)
    × (is_token (letters 129) ≡ false)
    × (is_token (letters 1) ≡ true)
    × (is_token [] ≡ false)
    × (is_token (codes "a" ++ 31 ∷ []) ≡ false)
    × (is_token (codes "a" ++ 32 ∷ []) ≡ true)
    × (is_token (codes "a" ++ 126 ∷ []) ≡ true)
    × (is_token (codes "a" ++ 127 ∷ []) ≡ false)
    × (is_token (195 ∷ 137 ∷ []) ≡ true)
    × (is_token (195 ∷ []) ≡ false)

-- the largest token set and a larger list, the empty list, a token that stands twice, and a text that is no token
abbrev pub TokenSetBounds : Type 0
TokenSetBounds =
    (is_token_set (single_bytes 64) ≡ true)
    × (is_token_set (single_bytes 65) ≡ false)
    × (is_token_set (codes "t1" ∷ []) ≡ true)
    × (is_token_set [] ≡ false)
    × (is_token_set (codes "t1" ∷ codes "t1" ∷ []) ≡ false)
    × (is_token_set (codes "t1" ∷ codes "t2" ∷ codes "t1" ∷ []) ≡ false)
    × (is_token_set (codes "t1" ∷ codes "T1" ∷ []) ≡ true)
    × (is_token_set (codes "t1" ∷ [] ∷ []) ≡ false)
    × (is_token_set (letters 128 ∷ letters 129 ∷ []) ≡ false)

-- a set contains its first and its last token, and none that differs by case, by a byte more or by one less
abbrev pub TokenMembers : Type 0
TokenMembers =
    let tokens = codes "t1" ∷ codes "t2" ∷ codes "t3" ∷ [] in
    (contains_token tokens (codes "t1") ≡ true)
    × (contains_token tokens (codes "t3") ≡ true)
    × (contains_token tokens (codes "t4") ≡ false)
    × (contains_token tokens (codes "T1") ≡ false)
    × (contains_token tokens (codes "t") ≡ false)
    × (contains_token tokens (codes "t11") ≡ false)
    × (contains_token (single_bytes 64) (96 ∷ []) ≡ true)
    × (contains_token (single_bytes 64) (97 ∷ []) ≡ false)

-- ---- mappings with token sets

-- token sets alone
abbrev pub token_sets_alone : List (List Text) → Regions
token_sets_alone sets = record (regions_with [] []) { token_sets = sets }

abbrev pub two_tokens : List Text
two_tokens = codes "t1" ∷ codes "t2" ∷ []

-- the mapping K, which serves two tokens
abbrev pub mapping_k : Mapping
mapping_k = record (mapping_with (codes "K") police [] []) { regions = token_sets_alone (two_tokens ∷ []) }

-- a mapping is found by a token of its set, and by no other; the empty token is no place; its boundary is the set as given
abbrev pub TokenServed : Type 0
TokenServed =
    let es = published (mapping_k ∷ []) in
    (build (parts_of (codes "K") (codes "urn:service:sos.police") (TokenRegion two_tokens ∷ [])) ≡ Ok mapping_k)
    × (ask es (find_at police (at_token (codes "t2") ∷ [])) ≡ found_reply 1 (by_reference (codes "K-1") mapping_k ∷ []))
    × (ask es (find_at police (at_token (codes "t3") ∷ [])) ≡ Errors 1 NotFound)
    × (ask es (find_at police (at_token [] ∷ [])) ≡ Errors 1 LocationInvalid)
    × (ask es (GetServiceBoundary (codes "K-1") []) ≡ GetServiceBoundaryResponse 1 own_path (token_sets_alone (two_tokens ∷ [])))

-- no token, a token that stands twice, and as many token sets as a mapping may have and one more
abbrev pub TokenRegions : Type 0
TokenRegions =
    let one : Region = TokenRegion (codes "t1" ∷ []) in
    (build (record parts_a { regions = TokenRegion [] ∷ [] }) ≡ Err BadRegion)
    × (build (record parts_a { regions = TokenRegion (codes "t1" ∷ codes "t1" ∷ []) ∷ [] }) ≡ Err BadRegion)
    × (parts_fault (record parts_a { regions = replicate 64 one }) ≡ None)
    × (parts_fault (record parts_a { regions = replicate 65 one }) ≡ Some TooLarge)

abbrev pub all_regions : Regions
all_regions = record { polygons = points ring_a ∷ []; patterns = wide_pattern ∷ []; token_sets = two_tokens ∷ [] }

-- a mapping with regions of all kinds
abbrev pub mapping_of_all : Mapping
mapping_of_all = record mapping_k { regions = all_regions }

abbrev pub of_all_by_value : Regions → Reply
of_all_by_value regions = found_reply 1 (record { mapping = mapping_of_all; boundary = ByValue regions } ∷ [])

-- such a mapping is found by each kind, and shown by value with the regions of that kind; by its key with all, polygons first and token sets last
abbrev pub ThreeKinds : Type 0
ThreeKinds =
    let es = published (mapping_of_all ∷ []) in
    let here = at_point (pos 5_000_000) (pos 5_000_000) in
    let address = at_address (address_with (codes "07605")) in
    let token = at_token (codes "t1") in
    (build (parts_of (codes "K") (codes "urn:service:sos.police") (TokenRegion two_tokens ∷ PatternRegion wide_pattern ∷ RingRegion ring_a ∷ [])) ≡ Ok mapping_of_all)
    × (ask es (FindService police (here ∷ token ∷ []) false true []) ≡ of_all_by_value (regions_with (points ring_a ∷ []) []))
    × (ask es (FindService police (address ∷ here ∷ []) false true []) ≡ of_all_by_value (regions_with [] (wide_pattern ∷ [])))
    × (ask es (FindService police (token ∷ here ∷ []) false true []) ≡ of_all_by_value (token_sets_alone (two_tokens ∷ [])))
    × (ask es (FindService police (token ∷ []) true false []) ≡ found_reply 1 (by_reference (codes "K-1") mapping_of_all ∷ []))
    × (ask es (GetServiceBoundary (codes "K-1") []) ≡ GetServiceBoundaryResponse 1 own_path all_regions)

-- a replacement that changes tokens alone, or only their order, wants a new key
abbrev pub TokenChange : Type 0
TokenChange =
    let book : Book = book_of usual_limits (Publish mapping_k ∷ []) in
    let newer : Mapping = record mapping_k { stamp = second_day } in
    (refusal book (Replace (record newer { regions = token_sets_alone ((codes "t1" ∷ []) ∷ []) })) ≡ Some KeyUnchanged)
    × (refusal book (Replace (record newer { regions = token_sets_alone ((codes "t2" ∷ codes "t1" ∷ []) ∷ []) })) ≡ Some KeyUnchanged)
    × (refusal book (Replace (record newer { regions = token_sets_alone ((codes "t3" ∷ []) ∷ []); key = Some (codes "K-2") })) ≡ None)
    × (refusal book (Replace newer) ≡ None)

-- a token under another profile's name, and other content under that of tokens
abbrev pub UnfittingTokens : Type 0
UnfittingTokens =
    let es = published (mapping_of_all ∷ []) in
    (ask es (find_at police (location_at (codes "p") geodetic (TokenBody (codes "t1")) ∷ [])) ≡ Errors 1 LocationInvalid)
    × (ask es (find_at police (location_at (codes "p") civic (TokenBody (codes "t1")) ∷ [])) ≡ Errors 1 LocationInvalid)
    × (ask es (find_at police (location_at (codes "p") x_token (PointBody (pos 5_000_000) (pos 5_000_000)) ∷ [])) ≡ Errors 1 LocationInvalid)
    × (ask es (find_at police (location_at (codes "p") x_token (AddressBody wide_pattern) ∷ [])) ≡ Errors 1 LocationInvalid)
