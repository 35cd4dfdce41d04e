-- What every mapping keeps.
use Rattle.std.specs.Prelude.{◌≡◌, true}
use Rattle.lost_spec.specs.Place.{no_regions}
use Rattle.lost_spec.specs.Mapping.{Mapping, has_right_key}

-- a default has no key and no region, and any other mapping has a key (RFC 5222, section 5.6; own)
pub record IsShaped (m : Mapping) : Type 0 where
  pub key : has_right_key m.is_default m.key ≡ true
  pub regions : m.is_default ≡ true → m.regions ≡ no_regions
