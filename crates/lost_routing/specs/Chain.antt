-- What is tested of a mapping that may hold a place, its regions last.
use Rattle.std.specs.Prelude.{◌≡◌, true, Bool, not, ◌&&◌}
use Rattle.lost_spec.specs.Place.{Place}
use Rattle.lost_spec.specs.Service.{Service, is_at_or_below}
use Rattle.lost_spec.specs.Moment.{Instant}
use Rattle.lost_spec.specs.Mapping.{Mapping, is_live}
use Rattle.lost_spec.specs.Find.{holds}

-- a mapping is live at t, is no default, and has s or a service above it (own)
abbrev pub is_eligible : Instant → Service → Mapping → Bool
is_eligible t s m = is_live m t && (not m.is_default && is_at_or_below s m.service)

-- a mapping is eligible and holds the place
abbrev pub is_chain_holder : Instant → Place → Service → Mapping → Bool
is_chain_holder t l s m = is_eligible t s m && holds m l

-- a mapping has s or a service above it, and holds the place
pub record IsHolderBelow (s : Service) (l : Place) (m : Mapping) : Type 0 where
  pub above : is_at_or_below s m.service ≡ true
  pub holder : holds m l ≡ true
