-- When a time limit is over, and what a clause reads of a `Deadline`. (Own.)
use Rattle.std.specs.Prelude.{◌≡◌, ◌-◌, Bool, true, nat_le, Option, Some, None, Result, IsErr, IfErr}
use Rattle.std.specs.declared.time.Duration.{Duration}
use Rattle.std.specs.Duration.{as_nanos}
use Rattle.std.specs.IoError.{error_kind}
use Rattle.std.specs.declared.io.Error.{Error}
use Rattle.std.specs.declared.io.ErrorKind.TheVariants.{TimedOut}
use Rattle.lost_status.specs.declared.deadline.Deadline.{Deadline}

-- so much has passed between two readings of a clock: if one of them failed, the time is over too
abbrev pub has_passed : (started now : Option Duration) → (limit : Duration) → Bool
has_passed None now limit = true
has_passed (Some started) None limit = true
has_passed (Some started) (Some now) limit = nat_le (as_nanos limit) (as_nanos now - as_nanos started)

-- what it wraps
abbrev pub inner_of : {T R : Type 0} → Deadline T R → T
inner_of d = d.inner

-- the time was over when it last looked
abbrev pub is_over : {T R : Type 0} → Deadline T R → Bool
is_over d = has_passed d.started d.now d.limit

-- a call that came too late: what is wrapped was not asked
pub record IsCutOff {T V : Type 0} (old new : T) (result : Result V Error) : Type 0 where
  pub fails : IsErr result
  pub kind : IfErr result (λ error. error_kind error ≡ TimedOut)
  pub kept : new ≡ old
