-- The reply to a request with locations, by the location that is used.
use Rattle.std.specs.Prelude.{ℕ, Option, None, Some}
use Rattle.lost_spec.specs.Place.{Place}
use Rattle.lost_spec.specs.Text.{Text}
use Rattle.lost_spec.specs.Request.{Reply, Errors}
use Rattle.lost_location.specs.Place.{place_of}
use Rattle.lost_query.specs.declared.places.Used.{Used}
use Rattle.lost_query.specs.declared.places.Used.TheVariants.{At, Refused}

-- the answer at the place of the location used, or the error that refuses it (RFC 5222, section 13.1)
abbrev pub reply_used : ℕ → Used → (Text → Place → Reply) → Reply
reply_used edition (At id place) answer = answer id.now (place_of place)
reply_used edition (Refused error) answer = Errors edition error

-- the place of the location that is used, where there is one
abbrev pub used_place : Used → Option Place
used_place (At id place) = Some (place_of place)
used_place (Refused error) = None
