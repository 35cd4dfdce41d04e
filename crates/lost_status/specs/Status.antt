-- What a clause reads of a `Status`.
use Rattle.std.specs.Prelude.{ℕ, ◌-◌, ◌/◌, vec_len}
use Rattle.std.specs.declared.time.Duration.{Duration}
use Rattle.std.specs.Duration.{as_nanos}
use Rattle.lost_status.specs.declared.status.Status.{Status}

-- how many workers have a block of their own
abbrev pub worker_count : Status → ℕ
worker_count status = vec_len status.workers

-- when the server started, since 1970
abbrev pub started_of : Status → Duration
started_of status = status.started

-- how long it has run, in whole seconds
abbrev pub uptime_of : (started now : Duration) → ℕ
uptime_of started now = (as_nanos now - as_nanos started) / 1_000_000_000
