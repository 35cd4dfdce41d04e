-- What a check of limits does. (Own.)
use Rattle.std.specs.Prelude.{◌≡◌, ◌<◌, ◌≤◌, ℕ, IsSome, None}
use Rattle.std.specs.declared.time.Duration.{Duration}
use Rattle.lost_connections.specs.declared.clients.Clients.{Clients}
use Rattle.lost_connections.specs.declared.limits.TimeLimits.{TimeLimits}
use Rattle.lost_connections.specs.Clients.{connected_at, late_at, KeepsOthers}

module _ {I O T : Type 0} (limits : TimeLimits) (now : Duration) (old new : Clients I O T) where
  -- each connection that is late is gone, and all others are as they were
  pub record IsSwept : Type 0 where
    pub late : (key : ℕ) → IsSome (late_at old limits now key) → connected_at new key ≡ None
    pub others : (key : ℕ) → late_at old limits now key ≡ None → connected_at new key ≡ connected_at old key

  -- the same of all keys below one; the others are not looked at yet
  pub record IsSweptBelow (from : ℕ) : Type 0 where
    pub late : (key : ℕ) → key < from → IsSome (late_at old limits now key) → connected_at new key ≡ None
    pub others : (key : ℕ) → late_at old limits now key ≡ None → connected_at new key ≡ connected_at old key
    pub later : (key : ℕ) → from ≤ key → connected_at new key ≡ connected_at old key

  -- the first that is late, from a key on, is gone, and nothing else changed
  pub record ClosesFirst (from key : ℕ) : Type 0 where
    pub from_on : from ≤ key
    pub is_late : IsSome (late_at old limits now key)
    pub first : (earlier : ℕ) → from ≤ earlier → earlier < key → late_at old limits now earlier ≡ None
    pub gone : connected_at new key ≡ None
    pub others : KeepsOthers old new key
