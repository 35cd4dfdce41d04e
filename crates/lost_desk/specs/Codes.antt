-- The numbers of refusals (own).
use Rattle.std.specs.Prelude.{ℕ}
use Rattle.lost_desk.specs.declared.faults.OpenError.{OpenError}
use Rattle.lost_desk.specs.declared.faults.OpenError.TheVariants.{Workers, Memory}
use Rattle.lost_desk.specs.declared.faults.CommitError.{CommitError}
use Rattle.lost_desk.specs.declared.faults.CommitError.TheVariants.{Memory as CommitMemory}

abbrev pub open_code : OpenError → ℕ
open_code Workers = 1
open_code Memory = 2

abbrev pub commit_code : CommitError → ℕ
commit_code CommitMemory = 1
