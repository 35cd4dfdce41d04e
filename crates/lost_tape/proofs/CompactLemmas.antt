-- The compact line of a findService at one point or token is read as that request.
use Rattle.std.proofs.Common.{◌≡◌, ℤ, [], ◌∷◌, ◌++◌, Option, Some, None, Ok, option_map, option_and_then, refl, sym, ap, ◌∙◌, subst, arith, append_assoc}
use Rattle.std.specs.Borrow.{Bor}
use Rattle.std.specs.Str.{IsUtf8, IsAscii}
use Rattle.std.proofs.lemmas.Str.{IsUtf8-append, IsUtf8-from_ascii}
use Rattle.std.proofs.lemmas.Fmt.{IsAscii-signed}
use Rattle.json.proofs.Printed.Utf8.{IsUtf8-are_ascii}
use Rattle.lost_urn.proofs.ReadLemmas.{ascii_text}
use Rattle.lost_tape.proofs.ServiceBytes.{service_plain}
use Rattle.std.specs.Fmt.{signed_decimal}
use Rattle.json.specs.Json as json
use Rattle.json.specs.Json.{Json}
use Rattle.json.specs.Print.{escape_byte, escape, print_from, print}
use Rattle.json.specs.Tree.{json_tokens}
use Rattle.serde_json.specs.Data.{Num, Data, number, string, array, object, no_items, item, Members, no_members, member}
use Rattle.serde_json.specs.Find.{as_i64}
use Rattle.serde_json.specs.Read.{number_of, of_json, read}
use Rattle.lost_spec.specs.Text.{Text}
use Rattle.lost_spec.specs.Decimal.{decimal}
use Rattle.lost_spec.specs.Service.{Service, read_service}
use Rattle.lost_spec.specs.Place.{Body, PointBody, TokenBody}
use Rattle.lost_spec.specs.Request.{Request}
use Rattle.lost_reading.specs.Desk.{order_in, desk_line}
use Rattle.lost_reading.specs.Requests.{request_in, line_request}
use Rattle.std.specs.Prelude.{codes}
use Rattle.lost_tape.specs.Compact.{before_id, before_lat, before_lon, after_lon, before_decimal, after_decimal, before_token, after_token, after_service, content_text, content_profile, content_body, place_line, place_request, IsContent, IsPlaceLine}
use Rattle.lost_writing.specs.FoundLine.{IsPlain}
use Rattle.lost_tape.specs.declared.locations.Content.{Content}
use Rattle.lost_tape.specs.declared.locations.Content.TheVariants.{Pair, Decimal, Token}
use Rattle.lost_tape.specs.declared.compact.PlaceLine.{PlaceLine}
use Rattle.lost_tape.proofs.CompactParts.{content_then}
use Rattle.lost_tape.proofs.NumberLemmas.{Spells, spells}
use Rattle.lost_reading.proofs.KnownMembersLemmas.{line_request-read, desk_line-read}
use Rattle.lost_tape.proofs.TreeLemmas.{read_printed}

-- ---- the value of such a line, as JSON and as a tree

abbrev place_json : Text → json.Members → Text → Json
place_json id content service =
    json.object (json.member (codes "findService") (json.object (
    json.member (codes "location") (json.array (json.item (json.object (
    json.member (codes "id") (json.string id) content)) json.no_items)) (
    json.member (codes "service") (json.string service) json.no_members))) json.no_members)

abbrev pair_json : (lat lon : Text) → json.Members
pair_json lat lon =
    json.member (codes "pos") (json.array (json.item (json.number lat) (json.item (json.number lon) json.no_items))) (
    json.member (codes "profile") (json.string (codes "geodetic-2d")) json.no_members)

abbrev decimal_json : Text → json.Members
decimal_json text = json.member (codes "pos") (json.string text) (json.member (codes "profile") (json.string (codes "geodetic-2d")) json.no_members)

abbrev token_json : Text → json.Members
token_json text = json.member (codes "profile") (json.string (codes "x-token")) (json.member (codes "token") (json.string text) json.no_members)

abbrev place_tree : Text → Members → Text → Data
place_tree id content service =
    object (member (codes "findService") (object (
    member (codes "location") (array (item (object (
    member (codes "id") (string id) content)) no_items)) (
    member (codes "service") (string service) no_members))) no_members)

abbrev pair_tree : Num → Num → Members
pair_tree lat lon = member (codes "pos") (array (item (number lat) (item (number lon) no_items))) (member (codes "profile") (string (codes "geodetic-2d")) no_members)

abbrev decimal_tree : Text → Members
decimal_tree text = member (codes "pos") (string text) (member (codes "profile") (string (codes "geodetic-2d")) no_members)

abbrev token_tree : Text → Members
token_tree text = member (codes "profile") (string (codes "x-token")) (member (codes "token") (string text) no_members)

-- ---- its text

-- what stands behind the quote that ends a text of decimal degrees, and a token
abbrev behind_decimal : Text
behind_decimal = codes ",\"profile\":\"geodetic-2d\"}],\"service\":\""

abbrev behind_token : Text
behind_token = codes "}],\"service\":\""

-- what stands between the quote that ends the id and what it begins
abbrev to_pair : Text
to_pair = codes ",\"pos\":["

abbrev to_decimal : Text
to_decimal = codes ",\"pos\":\""

abbrev to_token : Text
to_token = codes ",\"profile\":\"x-token\",\"token\":\""

printed_pair : (id lat lon service : Text) → print (json_tokens (place_json id (pair_json lat lon) service))
    ≡ before_id ++ ((escape id ++ 34 ∷ []) ++ (to_pair ++ (lat ++ (before_lon ++ (lon ++ (after_lon ++ ((escape service ++ 34 ∷ []) ++ (125 ∷ 125 ∷ []))))))))
unfolding print_from escape_byte before_id before_lon after_lon
printed_pair id lat lon service = refl

printed_decimal : (id text service : Text) → print (json_tokens (place_json id (decimal_json text) service))
    ≡ before_id ++ ((escape id ++ 34 ∷ []) ++ (to_decimal ++ ((escape text ++ 34 ∷ []) ++ (behind_decimal ++ ((escape service ++ 34 ∷ []) ++ (125 ∷ 125 ∷ []))))))
unfolding print_from escape_byte before_id
printed_decimal id text service = refl

printed_token : (id text service : Text) → print (json_tokens (place_json id (token_json text) service))
    ≡ before_id ++ ((escape id ++ 34 ∷ []) ++ (to_token ++ ((escape text ++ 34 ∷ []) ++ (behind_token ++ ((escape service ++ 34 ∷ []) ++ (125 ∷ 125 ∷ []))))))
unfolding print_from escape_byte before_id
printed_token id text service = refl

quote_then : (s rest : Text) → IsPlain s → (escape s ++ 34 ∷ []) ++ rest ≡ s ++ (34 ∷ rest)
quote_then s rest plain = append_assoc (escape s) (34 ∷ []) rest ∙ ap (λ t. t ++ (34 ∷ rest)) plain

module _ (id service : Text) (plain_id : IsPlain id) (plain_service : IsPlain service) where
  end : (escape service ++ 34 ∷ []) ++ (125 ∷ 125 ∷ []) ≡ service ++ after_service
  unfolding after_service
  end = quote_then service (125 ∷ 125 ∷ []) plain_service

  pair_is : (lat lon : ℤ) → place_line id (Pair lat lon) service ≡ print (json_tokens (place_json id (pair_json (signed_decimal lat) (signed_decimal lon)) service))
  unfolding place_line before_lat
  pair_is lat lon =
      let la = signed_decimal lat in
      let lo = signed_decimal lon in
      sym (printed_pair id la lo service
      ∙ ap (λ t. before_id ++ ((escape id ++ 34 ∷ []) ++ (to_pair ++ (la ++ (before_lon ++ (lo ++ (after_lon ++ t))))))) end
      ∙ ap (λ t. before_id ++ t) (quote_then id _ plain_id)
      ∙ ap (λ t. before_id ++ (id ++ t)) (sym (content_then (Pair lat lon) (service ++ after_service))))

  -- a printed line that holds a text between quotes, where that needs no escape
  quoted_is : (to text behind printed : Text) → IsPlain text
      → printed ≡ before_id ++ ((escape id ++ 34 ∷ []) ++ (to ++ ((escape text ++ 34 ∷ []) ++ (behind ++ ((escape service ++ 34 ∷ []) ++ (125 ∷ 125 ∷ []))))))
      → printed ≡ before_id ++ (id ++ (34 ∷ (to ++ (text ++ (34 ∷ (behind ++ (service ++ after_service)))))))
  quoted_is to text behind printed plain is =
      is
      ∙ ap (λ t. before_id ++ ((escape id ++ 34 ∷ []) ++ (to ++ ((escape text ++ 34 ∷ []) ++ (behind ++ t))))) end
      ∙ ap (λ t. before_id ++ ((escape id ++ 34 ∷ []) ++ (to ++ t))) (quote_then text (behind ++ (service ++ after_service)) plain)
      ∙ ap (λ t. before_id ++ t) (quote_then id (to ++ (text ++ (34 ∷ (behind ++ (service ++ after_service))))) plain_id)

  decimal_is : (text : Bor Text) → IsPlain text.now → place_line id (Decimal text) service ≡ print (json_tokens (place_json id (decimal_json text.now) service))
  unfolding place_line before_decimal after_decimal
  decimal_is text plain =
      sym (quoted_is to_decimal text.now behind_decimal (print (json_tokens (place_json id (decimal_json text.now) service))) plain (printed_decimal id text.now service)
      ∙ ap (λ t. before_id ++ (id ++ t)) (sym (content_then (Decimal text) (service ++ after_service))))

  token_is : (text : Bor Text) → IsPlain text.now → place_line id (Token text) service ≡ print (json_tokens (place_json id (token_json text.now) service))
  unfolding place_line before_token after_token
  token_is text plain =
      sym (quoted_is to_token text.now behind_token (print (json_tokens (place_json id (token_json text.now) service))) plain (printed_token id text.now service)
      ∙ ap (λ t. before_id ++ (id ++ t)) (sym (content_then (Token text) (service ++ after_service))))

-- it is UTF-8
content_utf8 : (content : Content) → IsContent content → IsUtf8 (content_text content)
unfolding before_lat before_lon after_lon before_decimal after_decimal before_token after_token
content_utf8 (Pair lat lon) small =
    let end = IsUtf8-are_ascii after_lon refl in
    let east = IsUtf8-append before_lon _ (IsUtf8-are_ascii before_lon refl) (IsUtf8-append (signed_decimal lon) _ (IsUtf8-from_ascii _ (IsAscii-signed lon small.1)) end) in
    IsUtf8-append before_lat _ (IsUtf8-are_ascii before_lat refl) (IsUtf8-append (signed_decimal lat) _ (IsUtf8-from_ascii _ (IsAscii-signed lat small.0)) east)
content_utf8 (Decimal text) is =
    IsUtf8-append before_decimal _ (IsUtf8-are_ascii before_decimal refl) (IsUtf8-append text.now after_decimal is.1 (IsUtf8-are_ascii after_decimal refl))
content_utf8 (Token text) is =
    IsUtf8-append before_token _ (IsUtf8-are_ascii before_token refl) (IsUtf8-append text.now after_token is.1 (IsUtf8-are_ascii after_token refl))

line_utf8 : (id service : Text) (content : Content) → IsUtf8 id → IsContent content → IsAscii service → IsUtf8 (place_line id content service)
unfolding place_line before_id after_service
line_utf8 id service content u is a =
    let end = IsUtf8-append service after_service (IsUtf8-from_ascii service a) (IsUtf8-are_ascii after_service refl) in
    IsUtf8-append before_id _ (IsUtf8-are_ascii before_id refl) (IsUtf8-append id _ u (IsUtf8-append (content_text content) _ (content_utf8 content is) end))

-- ---- what it is read as

-- a text is read as a value that is this request, and no desk line
record Reads (text : Text) (request : Request) : Type 0 where
  tree : Data
  reads : read text ≡ Some tree
  requests : request_in tree ≡ Some request
  orders : order_in tree ≡ None

same_body : (a b : Body) → Some a ≡ Some b → a ≡ b
same_body a b h = cc

pair_of_json : (id la lo service : Text) (lat lon : Num) → number_of la ≡ Some lat → number_of lo ≡ Some lon
    → of_json (place_json id (pair_json la lo) service) ≡ Some (place_tree id (pair_tree lat lon) service)
pair_of_json id la lo service lat lon p q = rw (p, q)

read_pair : (id la lo service : Text) (lat lon : ℤ) (p : Spells la lat) (q : Spells lo lon)
    → read (print (json_tokens (place_json id (pair_json la lo) service))) ≡ Some (place_tree id (pair_tree p.held q.held) service)
read_pair id la lo service lat lon p q =
    read_printed (place_json id (pair_json la lo) service) ((((tt, ((p.is_number, (q.is_number, tt)), (tt, tt))), tt), (tt, tt)), tt) (omega arith)
    ∙ pair_of_json id la lo service p.held q.held p.reads q.reads

read_decimal : (id text service : Text) → read (print (json_tokens (place_json id (decimal_json text) service))) ≡ Some (place_tree id (decimal_tree text) service)
read_decimal id text service = read_printed (place_json id (decimal_json text) service) ((((tt, (tt, (tt, tt))), tt), (tt, tt)), tt) (omega arith)

read_token : (id text service : Text) → read (print (json_tokens (place_json id (token_json text) service))) ≡ Some (place_tree id (token_tree text) service)
read_token id text service = read_printed (place_json id (token_json text) service) ((((tt, (tt, (tt, tt))), tt), (tt, tt)), tt) (omega arith)

request_of_pair : (id service : Text) (a b : Num) (lat lon : ℤ) (s : Service) → as_i64 a ≡ Some lat → as_i64 b ≡ Some lon → read_service service ≡ Ok s
    → request_in (place_tree id (pair_tree a b) service) ≡ Some (place_request id (codes "geodetic-2d") (PointBody lat lon) s)
request_of_pair id service a b lat lon s p q r = rw (r, p, q)

request_of_decimal : (id text service : Text) (position : ℤ × ℤ) (s : Service) → decimal text ≡ Some position → read_service service ≡ Ok s
    → request_in (place_tree id (decimal_tree text) service) ≡ Some (place_request id (codes "geodetic-2d") (PointBody position.0 position.1) s)
request_of_decimal id text service position s p r = rw (r, p)

request_of_token : (id text service : Text) (s : Service) → read_service service ≡ Ok s
    → request_in (place_tree id (token_tree text) service) ≡ Some (place_request id (codes "x-token") (TokenBody text) s)
request_of_token id text service s r = rw r

reads : (id service : Text) (content : Content) (body : Body) (s : Service) → IsContent content → IsPlain id → IsPlain service → content_body content ≡ Some body → read_service service ≡ Ok s
    → Reads (place_line id content service) (place_request id (content_profile content) body s)
reads id service (Pair lat lon) body s small plain_id plain_service holds found =
    let p = spells lat small.0 in
    let q = spells lon small.1 in
    record {
      tree = place_tree id (pair_tree p.held q.held) service;
      reads = ap read (pair_is id service plain_id plain_service lat lon) ∙ read_pair id _ _ service lat lon p q;
      requests = request_of_pair id service p.held q.held lat lon s p.whole q.whole found
          ∙ ap (λ b. Some (place_request id (codes "geodetic-2d") b s)) (same_body (PointBody lat lon) body holds);
      orders = refl;
    }
reads id service (Decimal text) body s is plain_id plain_service holds found =
    record {
      tree = place_tree id (decimal_tree text.now) service;
      reads = ap read (decimal_is id service plain_id plain_service text is.0) ∙ read_decimal id text.now service;
      requests = by (decimal text.now) refl holds;
      orders = refl;
    }
  where
    by : (o : Option (ℤ × ℤ)) → decimal text.now ≡ o → option_map (λ position. PointBody position.0 position.1) o ≡ Some body
        → request_in (place_tree id (decimal_tree text.now) service) ≡ Some (place_request id (codes "geodetic-2d") body s)
    by None e h = absurd (cc)
    by (Some position) e h = request_of_decimal id text.now service position s e found
        ∙ ap (λ b. Some (place_request id (codes "geodetic-2d") b s)) (same_body (PointBody position.0 position.1) body h)
reads id service (Token text) body s is plain_id plain_service holds found =
    record {
      tree = place_tree id (token_tree text.now) service;
      reads = ap read (token_is id service plain_id plain_service text is.0) ∙ read_token id text.now service;
      requests = request_of_token id text.now service s found
          ∙ ap (λ b. Some (place_request id (codes "x-token") b s)) (same_body (TokenBody text.now) body holds);
      orders = refl;
    }

-- such a line is that request, and no desk line
pub line_is_read : (line : Text) (place : PlaceLine) (body : Body) (s : Service) → IsPlaceLine line place → IsUtf8 place.id.now → content_body place.content ≡ Some body → read_service place.service.now ≡ Ok s
    → (line_request line ≡ Some (place_request place.id.now (content_profile place.content) body s)) × (desk_line line ≡ None)
line_is_read line place body s is utf8_id holds found =
    let id = place.id.now in
    let service = place.service.now in
    let utf8 = subst IsUtf8 (sym is.written) (line_utf8 id service place.content utf8_id is.sound (ascii_text service s found)) in
    let of_parts = reads id service place.content body s is.sound is.plain_id (service_plain service s found) holds found in
    let tree = ap read is.written ∙ of_parts.reads in (
      sym (line_request-read line line (refl, utf8)) ∙ ap (option_and_then request_in) tree ∙ of_parts.requests,
      sym (desk_line-read line line (refl, utf8)) ∙ ap (option_and_then order_in) tree ∙ of_parts.orders,
    )
