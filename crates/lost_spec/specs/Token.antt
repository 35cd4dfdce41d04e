-- Ids, and tokens: places that have names of their own, and the sets of them that a mapping serves.
use Rattle.std.specs.Prelude.{Bool, not, ◌&&◌, List, length, nat_le, ◌==◌}
use Rattle.std.specs.List.{list_all}
use Rattle.std.specs.Str.{is_utf8}
use Rattle.lost_spec.specs.Text.{Text, is_among, has_repeat, is_between}

-- a sourceId, and a key: 1 to 128 bytes of UTF-8 without bytes below 32 and without byte 127 (own)
unfoldable pub is_id : Text → Bool
is_id text = is_between 1 128 (length text) && is_utf8 text && list_all (λ b. nat_le 32 b && not (b == 127)) text

-- a token: any text that may be a sourceId (own)
abbrev pub is_token : Text → Bool
is_token text = is_id text

-- a token set: 1 to 64 tokens, none twice (own)
abbrev pub is_token_set : List Text → Bool
is_token_set tokens = is_between 1 64 (length tokens) && list_all is_token tokens && not (has_repeat tokens)

-- a token set contains a token where the token is one of its own, byte for byte (own)
abbrev pub contains_token : List Text → Text → Bool
contains_token tokens token = is_among token tokens
