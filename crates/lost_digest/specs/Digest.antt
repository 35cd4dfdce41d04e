-- The digest of a mapping, and of all that is held. Equal digests are of equal maps, but for a coincidence of 128 bits. (Own.)
use Rattle.std.specs.Prelude.{ℕ, ◌+◌, ◌-◌, ◌%◌, ◌^◌, List, ◌++◌}
use Rattle.std.specs.Int.{w128, to_be_bytes, from_be_bytes}
use Rattle.std.specs.List.{sum_by}
use Rattle.md5.specs.Md5.{md5, Holds}
use Rattle.md5.specs.declared.Md5.{Md5}
use Rattle.hex.specs.Hex.{encode_lower}
use Rattle.lost_spec.specs.Text.{Text}
use Rattle.lost_spec.specs.Mapping.{Mapping}
use Rattle.lost_digest.specs.Bytes.{mapping_bytes}

-- how many digests there are
abbrev pub digests : ℕ
digests = 2 ^ 128

-- the digest of a mapping: the MD5 of its bytes, as a number, the greatest byte first (RFC 1321)
unfoldable pub mapping_digest : Mapping → ℕ
mapping_digest m = from_be_bytes w128 (md5 (mapping_bytes m))

-- the digest of what is held: the sum of the mappings' digests, so that their order decides nothing
abbrev pub map_digest : List Mapping → ℕ
map_digest mappings = sum_by mapping_digest mappings % digests

-- a digest with a mapping more, and with one less
abbrev pub with_mapping : ℕ → Mapping → ℕ
with_mapping digest m = (digest + mapping_digest m) % digests

abbrev pub without_mapping : ℕ → Mapping → ℕ
without_mapping digest m = (digest + (digests - mapping_digest m)) % digests

-- a digest as it is written: 32 hexadecimal digits in lower case
abbrev pub digest_text : ℕ → Text
digest_text digest = encode_lower (to_be_bytes w128 digest)

-- a hasher that has taken these bytes behind what it held
unfoldable pub Takes : Md5 → Md5 → Text → Type 0
Takes before after bytes = (held : List ℕ) → Holds before held → Holds after (held ++ bytes)
