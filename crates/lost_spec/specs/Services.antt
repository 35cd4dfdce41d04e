-- The services below a service, at a place or anywhere, and the mapping of a key.
use Rattle.std.specs.Prelude.{Bool, not, ◌&&◌, List, Option, filter, filter_map, find}
use Rattle.lost_spec.specs.Place.{Place}
use Rattle.lost_spec.specs.Text.{Text, ascending_by}
use Rattle.lost_spec.specs.Service.{Service, service_text, child}
use Rattle.lost_spec.specs.Moment.{Instant}
use Rattle.lost_spec.specs.Mapping.{Mapping, is_live}
use Rattle.lost_spec.specs.Book.{Book, has_key}
use Rattle.lost_spec.specs.Find.{holds}

-- the children of q over the services of these mappings, ascending by text, each once (own order)
abbrev pub children_in : Option Service → List Mapping → List Service
children_in q ms = ascending_by service_text (filter_map (λ m. child q m.service) ms)

-- a mapping is live at t, is no default and holds the place
abbrev pub is_holding : Instant → Place → Mapping → Bool
is_holding t l m = is_live m t && (not m.is_default && holds m l)

-- the live mappings that hold the place and are not defaults, in list order
abbrev pub holding : Book → Instant → Place → List Mapping
holding b t l = filter (is_holding t l) b.mappings

-- all live mappings, defaults too, in list order
abbrev pub living : Book → Instant → List Mapping
living b t = filter (λ m. is_live m t) b.mappings

-- the services below q at a place (RFC 5222, section 11)
unfoldable pub services : Book → Instant → Place → Option Service → List Service
services b t l q = children_in q (holding b t l)

-- the services below q anywhere (RFC 5222, section 10)
unfoldable pub all_services : Book → Instant → Option Service → List Service
all_services b t q = children_in q (living b t)

-- a mapping is live at t and has this key
abbrev pub has_live_key : Instant → Text → Mapping → Bool
has_live_key t key m = is_live m t && has_key m key

-- the live mapping that has this key (RFC 5222, section 9; keys own)
unfoldable pub by_key : Book → Instant → Text → Option Mapping
by_key b t key = find (has_live_key t key) b.mappings
