-- What a call over a stream needs of its input and its output, and how it leaves them. (Own.)
use Rattle.std.specs.Prelude.{◌≡◌, ◌≢◌, ◌≤◌, true, false, Option, Result, Err, OnOk, IsErrOf}
use Rattle.std.specs.Io.KnownBytes.{IsAtEnd}
use Rattle.lost_spec.specs.Text.{Text}
use Rattle.lost_lines.specs.declared.counts.Counts.{Counts}
use Rattle.lost_lines.specs.declared.fault.ServeError.{ServeError}
use Rattle.lost_lines.specs.declared.fault.ServeError.TheVariants.{Read, Write}
use Rattle.lost_lines.specs.declared.turns.Turns.{Turns}
use Rattle.lost_lines.specs.declared.watched.Watched.{Watched}
use Rattle.lost_lines.specs.Watched.{inner_of, has_failed, has_ended, is_unflushed, reads_of}

-- nothing was read of the input yet, and nothing failed
pub record AreFresh {R W : Type 0} (input : Watched R) (output : Watched W) : Type 0 where
  pub no_read : reads_of input ≡ 0
  pub not_ended : has_ended input ≡ false
  pub input_sound : has_failed input ≡ false
  pub output_sound : has_failed output ≡ false

-- a call with this result left this input, and made of the output before this one:
-- Ok comes only where the input ended and neither flag is set; `Read` where a read failed, and only there; `Write` where a write or a flush failed, and only there;
-- nothing is left unflushed, but for a failed write or flush; and no more reads were made than the turns allow
pub record StreamFaults {R W : Type 0} (remaining : R → Option Text) (turns : Turns) (input : Watched R) (before after : Watched W) (result : Result Counts ServeError) : Type 0 where
  pub ended : OnOk result (has_ended input ≡ true)
  pub at_end : OnOk result (IsAtEnd (remaining (inner_of input)))
  pub sound : OnOk result ((has_failed input ≡ false) × (has_failed after ≡ false))
  pub read : IsErrOf result Read → has_failed input ≡ true
  pub write : IsErrOf result Write → has_failed after ≡ true
  pub only_read : result ≢ Err Read → has_failed input ≡ false
  pub only_write : result ≢ Err Write → has_failed after ≡ false
  pub flushed : result ≢ Err Write → is_unflushed before ≡ false → is_unflushed after ≡ false
  pub reads : reads_of input ≤ turns.reads
