-- What limits keep, and what a book keeps within its limits.
use Rattle.std.specs.Prelude.{◌≡◌, ◌≤◌, ◌<◌, ◌^◌, Some}
use Rattle.std.specs.Option.{option_and_then}
use Rattle.lost_spec.specs.Book.{Limits, Book, limits_of, with_traces}

-- the limits are allowed (own)
abbrev pub AreAllowed : Limits → Type 0
AreAllowed limits = (option_and_then (λ (l : Limits). with_traces l limits.traces) (limits_of limits.mappings limits.edits)) ≡ Some limits

-- the limits that no limits pass: as many mappings, edits and traces as there may be (own)
abbrev pub widest : Limits
widest = record { mappings = 65_536; edits = 4_294_967_295; traces = 65_536 }

-- no more edits were accepted than the limit, which has 32 bits (own)
pub record IsCounted (b : Book) : Type 0 where
  pub edits : b.edits ≤ b.limits.edits
  pub limit : b.limits.edits < 2 ^ 32
