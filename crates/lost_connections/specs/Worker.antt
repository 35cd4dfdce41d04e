-- What answers lines, by what is seen of it.
use Rattle.std.specs.Prelude.{List}
use Rattle.lost_spec.specs.Moment.{Instant}
use Rattle.lost_desk.specs.Seen.{ReaderSeen}
use Rattle.lost_worker.specs.Lines.{Worker}

-- what answers lines, by what it has seen and the moments to come
abbrev pub worker : ReaderSeen → List Instant → Worker
worker reader moments = record { reader = reader; moments = moments }
