-- What the routing answers to an edit, and what it is then.
use Rattle.std.specs.Prelude.{◌≡◌, ◌≢◌, None, Some, Err, IfErr, OnOk, OnErr, Result}
use Rattle.lost_spec.specs.declared.faults.EditError.{EditError}
use Rattle.lost_spec.specs.declared.faults.EditError.TheVariants.{Memory}
use Rattle.lost_spec.specs.Book.{Book, Edit, refusal, after}

-- the edit is accepted and is the last one of the book, or it is refused and the book is as it was; want of memory comes last (own)
pub record IsApplied (old : Book) (edit : Edit) (result : Result (Unit {0}) EditError) (new : Book) : Type 0 where
  pub accepted : OnOk result (refusal old edit ≡ None)
  pub changed : OnOk result (new ≡ after old edit)
  pub refused : IfErr result (λ e. e ≢ Memory → refusal old edit ≡ Some e)
  pub memory_last : result ≡ Err Memory → refusal old edit ≡ None
  pub unchanged : OnErr result (new ≡ old)
