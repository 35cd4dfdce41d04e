-- The numbers of the faults of a stream. (Own.)
use Rattle.std.specs.Prelude.{ℕ}
use Rattle.lost_lines.specs.declared.fault.ServeError.{ServeError}
use Rattle.lost_lines.specs.declared.fault.ServeError.TheVariants.{Read, Write, TurnsSpent, Memory}

-- why a stream was not served to its end
abbrev pub serve_code : ServeError → ℕ
serve_code Read = 1
serve_code Write = 2
serve_code TurnsSpent = 3
serve_code Memory = 4
