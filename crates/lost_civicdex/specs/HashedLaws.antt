-- The laws of hashed keys.
use Rattle.std.proofs.Common.{◌≤◌, Bool, List, length, map, IsTrue, arith}
use Rattle.std.specs.List.{IsDistinct}
use Rattle.std.proofs.lemmas.List.{length-map}
use Rattle.lost_spec.specs.Civic.{Pairs, matches}
use Rattle.lost_civic.specs.Element.{all_elements}
use Rattle.lost_profile.specs.Keys.{SharesKey}
use Rattle.lost_civicdex.specs.declared.hashed_key.HashedKey.{HashedKey}
use Rattle.lost_civicdex.specs.Keys.{Key, keys_of, last_key}
use Rattle.lost_civicdex.specs.Covers.{civic_cover, IsPattern, names_all, required_probes, IsRequirement}
use Rattle.lost_civicdex.specs.HashedKeys.{hashed, hashed_cover, hashed_keys, hashed_probes}
use Rattle.lost_civicdex.specs.KeysApart.{AreApart, keys_distinct, one_distinct, keys_bounded, one_at_most}
use Rattle.lost_civicdex.specs.CoverLaws.{civic_shares, required_shares, in_map}

-- equal keys have equal hashes, so lists that share a key share one when hashed
hashed_shares : (keys others : List Key) → SharesKey keys others → SharesKey (map hashed keys) (map hashed others)
hashed_shares keys others shares =
    record {
      key = hashed shares.key;
      in_left = in_map hashed keys shares.key shares.in_left;
      in_right = in_map hashed others shares.key shares.in_right;
    }

-- where a pattern matches an address, the key of its last element is one of the address's
pub hashed_civic_shares : (pattern address : Pairs) → IsPattern pattern → IsTrue (matches pattern address) → SharesKey (hashed_cover pattern) (hashed_keys address)
hashed_civic_shares pattern address lawful holds =
    hashed_shares (civic_cover pattern) (keys_of address) (civic_shares pattern address lawful holds)

-- where a pattern names each required element, the last of them is one of its keys
pub hashed_required_shares : (pattern : Pairs) (required : List Key) → IsRequirement required → IsTrue (names_all pattern required) → SharesKey (hashed_keys pattern) (hashed_probes required)
hashed_required_shares pattern required some holds =
    hashed_shares (keys_of pattern) (required_probes required) (required_shares pattern required some holds)

-- a cover has one key at most
pub hashed_cover_bounded : (pattern : Pairs) → length (hashed_cover pattern) ≤ 1
hashed_cover_bounded pattern = omega (arith, length-map (civic_cover pattern) hashed, one_at_most (last_key pattern))

-- there are at most as many keys as there are elements
pub hashed_keys_bounded : (pairs : Pairs) → length (hashed_keys pairs) ≤ 31
hashed_keys_bounded pairs = omega (arith, length-map (keys_of pairs) hashed, keys_bounded pairs)

-- ---- no key stands twice, whichever test tells keys of different elements apart
module _ (same : HashedKey → HashedKey → Bool) where
  pub hashed_cover_distinct : (pattern : Pairs) → IsDistinct same (hashed_cover pattern)
  hashed_cover_distinct pattern = one_distinct hashed same (last_key pattern)

  pub hashed_keys_distinct : AreApart hashed same all_elements → (pairs : Pairs) → IsDistinct same (hashed_keys pairs)
  hashed_keys_distinct apart pairs = keys_distinct hashed same apart pairs
