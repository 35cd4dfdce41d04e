-- What ends the program early, and the exit statuses.
use Rattle.std.specs.Prelude.{ℕ, not, ◌∷◌, [], Option, Result, Ok, Err}
use Rattle.lost_spec.specs.Text.{Text, first_fault}
use Rattle.lost_spec.specs.Mapping.{is_source}
use Rattle.lost_spec.specs.Moment.{is_stamp}
use Rattle.lost_command.specs.declared.exit_reason.ExitReason.{ExitReason}
use Rattle.lost_command.specs.declared.exit_reason.ExitReason.TheVariants.{Words, CommandLine, Name, Now, Address, Run, Workers, Accept, Found, NoEdits, File, MapRefused, Damaged}

-- 1 for a fault of the run, 2 for a mistake on the command line, 3 for what a check found, or what is wrong with a map or a journal (own)
abbrev pub reason_status : ExitReason → ℕ
reason_status Words = 2
reason_status CommandLine = 2
reason_status Name = 2
reason_status Now = 2
reason_status Address = 1
reason_status (Run _) = 1
reason_status Workers = 1
reason_status Accept = 1
reason_status Found = 3
reason_status NoEdits = 2
reason_status File = 1
reason_status MapRefused = 3
reason_status Damaged = 3

-- 0 where all went well (own)
abbrev pub status_of : Result (Unit {0}) ExitReason → ℕ
status_of (Ok _) = 0
status_of (Err reason) = reason_status reason

-- the first mistake in the name of a server and a moment (own order)
abbrev pub begin_fault : Text → Text → Option ExitReason
begin_fault name now = first_fault ((not (is_source name), Name) ∷ (not (is_stamp now), Now) ∷ [])
