-- The regions of mappings under their numbers, kept once for each kind of question (own).
use Rattle.std.specs.Prelude.{ℕ, List, [], ◌∷◌, ◌++◌, map}
use Rattle.lost_spec.specs.Text.{Text}
use Rattle.lost_spec.specs.Ring.{Point, inside}
use Rattle.lost_spec.specs.Civic.{Pairs, matches}
use Rattle.lost_spec.specs.Token.{contains_token}
use Rattle.lost_spec.specs.Place as spec
use Rattle.lost_spec.specs.Mapping.{Mapping}
use Rattle.lost_index.specs.Entries.{IsAbove, IsHeld, numbers, holders, with_number, without}
use Rattle.lost_regions.specs.UnderNumber.{IsHeldWith}

-- numbers with polygons, which are asked for a point, with patterns, which are asked for an address, and for required elements and any one element, and with token sets, which are asked for a token
pub record Regions : Type 0 where
  pub points : List (ℕ × List (List Point))
  pub addresses : List (ℕ × List Pairs)
  pub references : List (ℕ × List Pairs)
  pub tokens : List (ℕ × List (List Text))

abbrev pub no_regions : Regions
no_regions = record { points = []; addresses = []; references = []; tokens = [] }

-- the regions of mappings under their numbers
abbrev pub regions_of : List (ℕ × Mapping) → Regions
regions_of held = record {
  points = map (λ e. (e.0, e.1.regions.polygons)) held;
  addresses = map (λ e. (e.0, e.1.regions.patterns)) held;
  references = map (λ e. (e.0, e.1.regions.patterns)) held;
  tokens = map (λ e. (e.0, e.1.regions.token_sets)) held;
}

-- the number is above all that are held
pub record IsAboveAll (number : ℕ) (r : Regions) : Type 0 where
  pub points : IsAbove number r.points
  pub addresses : IsAbove number r.addresses
  pub references : IsAbove number r.references
  pub tokens : IsAbove number r.tokens

-- the number is held
pub record AreHeld (number : ℕ) (r : Regions) : Type 0 where
  pub points : IsHeld number r.points
  pub addresses : IsHeld number r.addresses
  pub references : IsHeld number r.references
  pub tokens : IsHeld number r.tokens

-- the number is held with these regions, and once
pub record HasAll (number : ℕ) (regions : spec.Regions) (r : Regions) : Type 0 where
  pub points : IsHeldWith number regions.polygons r.points
  pub addresses : IsHeldWith number regions.patterns r.addresses
  pub references : IsHeldWith number regions.patterns r.references
  pub tokens : IsHeldWith number regions.token_sets r.tokens

-- the regions of one mapping before those of another
abbrev pub joined : spec.Regions → spec.Regions → spec.Regions
joined one other = record {
  polygons = one.polygons ++ other.polygons;
  patterns = one.patterns ++ other.patterns;
  token_sets = one.token_sets ++ other.token_sets;
}

-- one number more, with the regions of a mapping
abbrev pub with_mapping : ℕ → Mapping → Regions → Regions
with_mapping number m r = record {
  points = r.points ++ (number, m.regions.polygons) ∷ [];
  addresses = r.addresses ++ (number, m.regions.patterns) ∷ [];
  references = r.references ++ (number, m.regions.patterns) ∷ [];
  tokens = r.tokens ++ (number, m.regions.token_sets) ∷ [];
}

-- the regions of a mapping behind those of the number
abbrev pub with_more : ℕ → Mapping → Regions → Regions
with_more number m r = record {
  points = with_number number (λ regions. regions ++ m.regions.polygons) r.points;
  addresses = with_number number (λ regions. regions ++ m.regions.patterns) r.addresses;
  references = with_number number (λ regions. regions ++ m.regions.patterns) r.references;
  tokens = with_number number (λ regions. regions ++ m.regions.token_sets) r.tokens;
}

-- the regions of a mapping in the place of those of the number
abbrev pub with_other : ℕ → Mapping → Regions → Regions
with_other number m r = record {
  points = with_number number (λ _. m.regions.polygons) r.points;
  addresses = with_number number (λ _. m.regions.patterns) r.addresses;
  references = with_number number (λ _. m.regions.patterns) r.references;
  tokens = with_number number (λ _. m.regions.token_sets) r.tokens;
}

-- the regions without the number
abbrev pub without_number : ℕ → Regions → Regions
without_number number r = record {
  points = without number r.points;
  addresses = without number r.addresses;
  references = without number r.references;
  tokens = without number r.tokens;
}

-- the numbers that are asked for a place of this kind
abbrev pub numbers_at : spec.Place → Regions → List ℕ
numbers_at (spec.AtPoint point) r = numbers r.points
numbers_at (spec.AtAddress address) r = numbers r.addresses
numbers_at (spec.AtToken token) r = numbers r.tokens

-- the numbers with a region that contains the place
abbrev pub holders_at : spec.Place → Regions → List ℕ
holders_at (spec.AtPoint point) r = holders inside point r.points
holders_at (spec.AtAddress address) r = holders matches address r.addresses
holders_at (spec.AtToken token) r = holders contains_token token r.tokens
