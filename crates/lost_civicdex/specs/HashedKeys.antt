-- The keys of an index: a hash stands in place of a text.
use Rattle.std.specs.Prelude.{List, map}
use Rattle.lost_spec.specs.Civic.{Pairs}
use Rattle.lost_civic.specs.Signatures.{hash_of}
use Rattle.lost_civicdex.specs.declared.hashed_key.HashedKey.{HashedKey}
use Rattle.lost_civicdex.specs.Keys.{Key, keys_of}
use Rattle.lost_civicdex.specs.Covers.{civic_cover, required_probes}

-- the element of a key with the hash of the element and its text (own)
abbrev pub hashed : Key → HashedKey
hashed key = record { element = key.0; hash = hash_of key.0 key.1 }

-- ---- addresses

-- what a pattern is kept under: the key of its last element alone, hashed (own)
abbrev pub hashed_cover : Pairs → List HashedKey
hashed_cover pattern = map hashed (civic_cover pattern)

-- what an address is looked up under, and a pattern is kept under among references: the keys of all elements, hashed (own)
abbrev pub hashed_keys : Pairs → List HashedKey
hashed_keys pairs = map hashed (keys_of pairs)

-- ---- required elements

-- what they are looked up under: the last of them alone, hashed (own)
abbrev pub hashed_probes : List Key → List HashedKey
hashed_probes required = map hashed (required_probes required)
