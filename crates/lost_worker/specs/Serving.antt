-- What answers the lines of a connection, by what it refers to.
use Rattle.std.specs.Prelude.{◌≡◌, List}
use Rattle.lost_spec.specs.Moment.{Instant}
use Rattle.lost_desk.specs.Seen.{ReaderSeen}
use Rattle.lost_lines.specs.Run.{Cut, Reply}
use Rattle.lost_worker.specs.declared.serving.Serving.{Serving}
use Rattle.lost_worker.specs.Lines.{Worker, Answers}

-- what it is, by what its replier and its moments are seen as
abbrev pub worker_of : {P M : Type 0} → (P → ReaderSeen) → (M → List Instant) → Serving P M → Worker
worker_of reader coming s = record { reader = reader s.replier.now; moments = coming s.moments.now }

-- the step of what answers lines: what it refers to stays, and the worker goes by its step
pub record Serves {P M : Type 0} (reader : P → ReaderSeen) (coming : M → List Instant) (old : Serving P M) (cut : Cut) (reply : Reply) (new : Serving P M) : Type 0 where
  pub name_stays : new.name.now ≡ old.name.now
  pub replier_stays : new.replier.ghost_name ≡ old.replier.ghost_name
  pub moments_stay : new.moments.ghost_name ≡ old.moments.ghost_name
  pub step : Answers old.name.now (worker_of reader coming old) cut reply (worker_of reader coming new)
