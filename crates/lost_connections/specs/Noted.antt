-- What a clause reads of a `Noted`, and which calls fail. (Own.)
use Rattle.std.specs.Prelude.{◌≡◌, ◌≢◌, ◌<◌, ℕ, Bool, true, false, Result, Ok, Err}
use Rattle.std.specs.IoError.{error_kind}
use Rattle.std.specs.declared.io.Error.{Error}
use Rattle.std.specs.declared.io.ErrorKind.TheVariants.{WouldBlock}
use Rattle.lost_connections.specs.declared.noted.Noted.{Noted}

-- what it wraps
abbrev pub inner_of : {T : Type 0} → Noted T → T
inner_of n = n.inner

-- a call failed
abbrev pub has_failed : {T : Type 0} → Noted T → Bool
has_failed n = n.has_failed

-- the answer says whether the call would only wait
pub record WouldWait (error : Error) (answer : Bool) : Type 0 where
  pub waits : answer ≡ true → error_kind error ≡ WouldBlock
  pub fails : answer ≡ false → error_kind error ≢ WouldBlock

-- a read failed: it did more than say that it would wait
abbrev pub IsReadFault : {T : Type 0} → Result T Error → Type 0
IsReadFault (Ok count) = ⊥
IsReadFault (Err error) = error_kind error ≢ WouldBlock

-- a write failed: it did more than say that it would wait, or it was given so many bytes, at least one, and took none
abbrev pub IsWriteFault : Result ℕ Error → ℕ → Type 0
IsWriteFault (Ok count) room = (count ≡ 0) × (0 < room)
IsWriteFault (Err error) room = error_kind error ≢ WouldBlock

-- the flag is set if there was a fault, and else stays; it is never taken back
pub record NotesFault {T : Type 0} (fault : Type 0) (old new : Noted T) : Type 0 where
  pub noted : fault → has_failed new ≡ true
  pub none : (fault → ⊥) → has_failed new ≡ has_failed old
  pub stays : has_failed old ≡ true → has_failed new ≡ true
