-- What a `Body` of the code stands for.
use Rattle.std.specs.Cow.{cow_str_bytes}
use Rattle.lost_spec.specs.Place as spec
use Rattle.lost_civic.specs.Pairs.{seen_pairs}
use Rattle.lost_location.specs.declared.body.Body.{Body}
use Rattle.lost_location.specs.declared.body.Body.TheVariants.{Point, Address, Token, Unreadable}

-- what a location holds (RFC 5222, section 12; tokens own)
abbrev pub body_of : Body → spec.Body
body_of (Point lat lon) = spec.PointBody lat lon
body_of (Address pairs) = spec.AddressBody (seen_pairs pairs.items)
body_of (Token text) = spec.TokenBody (cow_str_bytes text)
body_of Unreadable = spec.UnreadableBody
