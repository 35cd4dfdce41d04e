-- The compact line of a findService at one point or token: JSON with no space, and each object's members in the order of their names. (Own.)
use Rattle.std.specs.Prelude.{◌≡◌, ◌^◌, ◌<◌, [], ◌∷◌, ◌++◌, true, false, Option, Some, option_map, codes}
use Rattle.std.specs.Fmt.{signed_decimal}
use Rattle.std.specs.Str.{IsUtf8}
use lib.Signed.{mag}
use Rattle.lost_spec.specs.Text.{Text}
use Rattle.lost_spec.specs.Decimal.{decimal}
use Rattle.lost_spec.specs.Service.{Service}
use Rattle.lost_spec.specs.Place.{Body, PointBody, TokenBody}
use Rattle.lost_spec.specs.Request.{Request, FindService}
use Rattle.lost_writing.specs.FoundLine.{IsPlain}
use Rattle.lost_tape.specs.declared.locations.Content.{Content}
use Rattle.lost_tape.specs.declared.locations.Content.TheVariants.{Pair, Decimal, Token}
use Rattle.lost_tape.specs.declared.compact.PlaceLine.{PlaceLine}

-- the texts that stand before, between and after the id, the latitude, the longitude, a text and the service
unfoldable pub before_id : Text
before_id = codes "{\"findService\":{\"location\":[{\"id\":\""

unfoldable pub before_lat : Text
before_lat = codes "\",\"pos\":["

unfoldable pub before_lon : Text
before_lon = codes ","

unfoldable pub after_lon : Text
after_lon = codes "],\"profile\":\"geodetic-2d\"}],\"service\":\""

unfoldable pub before_decimal : Text
before_decimal = codes "\",\"pos\":\""

unfoldable pub after_decimal : Text
after_decimal = codes "\",\"profile\":\"geodetic-2d\"}],\"service\":\""

unfoldable pub before_token : Text
before_token = codes "\",\"profile\":\"x-token\",\"token\":\""

unfoldable pub after_token : Text
after_token = codes "\"}],\"service\":\""

unfoldable pub after_service : Text
after_service = codes "\"}}"

-- what stands between the id and the service
abbrev pub content_text : Content → Text
content_text (Pair lat lon) = before_lat ++ (signed_decimal lat ++ (before_lon ++ (signed_decimal lon ++ after_lon)))
content_text (Decimal text) = before_decimal ++ (text.now ++ after_decimal)
content_text (Token text) = before_token ++ (text.now ++ after_token)

-- the line of an id, a content and a service, each written as it is
unfoldable pub place_line : Text → Content → Text → Text
place_line id content service = before_id ++ (id ++ (content_text content ++ (service ++ after_service)))

-- the profile of a content (RFC 5222, section 12)
abbrev pub content_profile : Content → Text
content_profile (Pair lat lon) = codes "geodetic-2d"
content_profile (Decimal text) = codes "geodetic-2d"
content_profile (Token text) = codes "x-token"

-- what a location of this content holds; a text that is no position holds nothing here
abbrev pub content_body : Content → Option Body
content_body (Pair lat lon) = Some (PointBody lat lon)
content_body (Decimal text) = option_map (λ position. PointBody position.0 position.1) (decimal text.now)
content_body (Token text) = Some (TokenBody text.now)

-- the request that such a line spells: the service at the place, and nothing else (RFC 5222, section 8)
abbrev pub place_request : Text → Text → Body → Service → Request
place_request id profile body service = FindService service (record { id = id; profile = profile; srs_known = true; body = body } ∷ []) false false []

-- a content that may stand in a line: numbers of 64 bits, a text that stands as it is
abbrev pub IsContent : Content → Type 0
IsContent (Pair lat lon) = (mag lat < 2 ^ 63) × (mag lon < 2 ^ 63)
IsContent (Decimal text) = IsPlain text.now × IsUtf8 text.now
IsContent (Token text) = IsPlain text.now × IsUtf8 text.now

-- a text begins with a content, and goes on with the rest
pub record IsContentBefore (text : Text) (content : Content) (rest : Text) : Type 0 where
  pub begins : text ≡ content_text content ++ rest
  pub sound : IsContent content

-- the parts of a line: it is written of them
pub record IsPlaceLine (line : Text) (place : PlaceLine) : Type 0 where
  pub written : line ≡ place_line place.id.now place.content place.service.now
  pub plain_id : IsPlain place.id.now
  pub sound : IsContent place.content
