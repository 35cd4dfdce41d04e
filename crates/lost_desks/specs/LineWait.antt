-- How long a desk has gone without a whole line. (Own.)
use Rattle.std.specs.Prelude.{Bool, true, false, List, ℕ, ◌==◌, if◌then◌else◌}
use Rattle.std.specs.List.{list_any}
use Rattle.std.specs.declared.time.Duration.{Duration}
use Rattle.lost_desks.specs.declared.line_wait.LineWait.{LineWait}

-- a turn that begins: no line has come
abbrev pub first_wait : Duration → LineWait
first_wait now = record { since = now; has_line = false; is_at_line = false }

-- before a read: behind a whole line the wait begins again, and not otherwise
abbrev pub wait_before_read : LineWait → Duration → LineWait
wait_before_read w now = if w.is_at_line then record { since = now; has_line = w.has_line; is_at_line = false } else w

-- after a read: a byte 10 ends a line
abbrev pub wait_after_read : LineWait → List ℕ → LineWait
wait_after_read w bytes = if list_any (λ b. b == 10) bytes then record { since = w.since; has_line = true; is_at_line = true } else w

-- the bytes of a request of HTTP are no lines
abbrev pub wait_after_bytes : (is_http : Bool) → LineWait → List ℕ → LineWait
wait_after_bytes is_http w bytes = if is_http then w else wait_after_read w bytes
