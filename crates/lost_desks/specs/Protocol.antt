-- What is no desk, by the first bytes that it sends. (Own.)
use Rattle.std.specs.Prelude.{Bool, ◌||◌, List, ℕ, [], ◌∷◌, Option, None, Some, if◌then◌else◌}
use Rattle.std.specs.Bool.{nat_eq}
use Rattle.std.specs.List.{starts_with}
use Rattle.lost_desks.specs.declared.turn_end.TurnEnd.{TurnEnd}
use Rattle.lost_desks.specs.declared.turn_end.TurnEnd.TheVariants.{SpeaksHttp, SpeaksTls}
use lib.Chars.{codes}

-- a method and a space: the front of a request of HTTP (RFC 9112, section 3)
abbrev pub is_http : List ℕ → Bool
is_http front =
    starts_with nat_eq front (codes "GET ") || starts_with nat_eq front (codes "POST ")
    || starts_with nat_eq front (codes "HEAD ") || starts_with nat_eq front (codes "PUT ")
    || starts_with nat_eq front (codes "OPTIONS ") || starts_with nat_eq front (codes "CONNECT ")

-- the content type and the version's first byte: the front of a handshake of TLS (RFC 8446, section 5.1)
abbrev pub is_tls : List ℕ → Bool
is_tls front = starts_with nat_eq front (22 ∷ 3 ∷ [])

-- why a turn with these first bytes is over, if it is no desk's
abbrev pub other_protocol : List ℕ → Option TurnEnd
other_protocol front = if is_http front then Some SpeaksHttp else if is_tls front then Some SpeaksTls else None
