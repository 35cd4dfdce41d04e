-- What a walk over the table of services looks for.
use Rattle.std.specs.Prelude.{ℕ, Bool, ◌&&◌, List, Option, filter_map, slice_get}
use Rattle.lost_spec.specs.Text.{Text, same_text}
use Rattle.lost_spec.specs.Service.{service_text}
use Rattle.lost_spec.specs.Moment.{Instant}
use Rattle.lost_spec.specs.Mapping.{Mapping, is_live}
use Rattle.lost_tables.specs.Picks.{passing}

-- a mapping is live and its service has this text (own)
abbrev pub is_live_of : Mapping → Instant → Text → Bool
is_live_of m t text = is_live m t && same_text (service_text m.service) text

-- the position of the first of these candidates whose mapping is live and has the service of this text (own)
abbrev pub live_position : List ℕ → List Mapping → Instant → Text → List ℕ → Option ℕ
live_position numbers mappings t text candidates = slice_get (filter_map (passing (λ m. is_live_of m t text) numbers mappings) candidates) 0
