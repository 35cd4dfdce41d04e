-- What the code's search finds, and what stands at positions.
use Rattle.std.specs.Prelude.{ℕ, List, [], ◌∷◌, Option, None, Some, option_map, filter, filter_map, slice_get}
use Rattle.std.specs.List.{list_any}
use Rattle.lost_spec.specs.Service.{Service, same_service, chain}
use Rattle.lost_spec.specs.Mapping.{Mapping}
use Rattle.lost_spec.specs.Find as spec
use Rattle.lost_query.specs.declared.chain.ChainService.{ChainService}
use Rattle.lost_query.specs.declared.chain.ChainService.TheVariants.{Asked, Above}
use Rattle.lost_query.specs.declared.found.Found.{Found}
use Rattle.lost_query.specs.declared.finding.Finding.{Finding}
use Rattle.lost_query.specs.declared.finding.Finding.TheVariants.{Holders, Defaults, Nothing}

-- what stands at these positions of a list, in their order (own)
abbrev pub at_positions : {Thing : Type 0} → List Thing → List ℕ → List Thing
at_positions xs positions = filter_map (slice_get xs) positions

-- those of the mappings that have a service of the chain of s, in their order (own)
abbrev pub of_chain : Service → List Mapping → List Mapping
of_chain s ms = filter (λ m. list_any (λ u. same_service m.service u) (chain s)) ms

-- a service of a chain
abbrev pub chain_service : ChainService → Service
chain_service (Asked service) = service.now
chain_service (Above service) = service.value

-- the mappings that were found
abbrev pub mappings_of : Found → List Mapping
mappings_of found = found.first ∷ found.rest.items

-- the mappings that were found, where there are any
abbrev pub all_found : Option Found → List Mapping
all_found None = []
all_found (Some found) = mappings_of found

-- the first service that has mappings, with them
abbrev pub first_of : Option (ChainService × Found) → Option (Service × List Mapping)
first_of first = option_map (λ pair. (chain_service pair.0, mappings_of pair.1)) first

-- what a search finds (RFC 5222, section 8; policy own)
abbrev pub finding_of : Finding → spec.Finding
finding_of (Holders service found) = spec.FoundHolders (chain_service service) (mappings_of found)
finding_of (Defaults service found) = spec.FoundDefaults (chain_service service) (mappings_of found)
finding_of Nothing = spec.FoundNothing
