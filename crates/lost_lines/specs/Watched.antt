-- What a clause reads of a `Watched`.
use Rattle.std.specs.Prelude.{ℕ, Bool, false, ◌==◌, ◌&&◌, nat_lt, Result, Ok, Err}
use Rattle.lost_lines.specs.declared.watched.Watched.{Watched}

-- what it wraps
abbrev pub inner_of : {T : Type 0} → Watched T → T
inner_of w = w.inner

-- a read, a write or a flush failed, or a write that was given a byte took none
abbrev pub has_failed : {T : Type 0} → Watched T → Bool
has_failed w = w.failed

-- a read with room for a byte gave none
abbrev pub has_ended : {T : Type 0} → Watched T → Bool
has_ended w = w.ended

-- a write was made after the last flush that did not fail
abbrev pub is_unflushed : {T : Type 0} → Watched T → Bool
is_unflushed w = w.unflushed

-- how many reads were made; it stays at its greatest value
abbrev pub reads_of : {T : Type 0} → Watched T → ℕ
reads_of w = w.reads

-- a read or a write of up to so many bytes went well and moved none, though there was room for one
abbrev pub gives_none : {E : Type 0} → Result ℕ E → ℕ → Bool
gives_none (Ok count) room = count == 0 && nat_lt 0 room
gives_none (Err e) room = false
