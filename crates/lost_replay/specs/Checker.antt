-- What a clause reads of what checks the lines of a stream.
use Rattle.std.specs.Prelude.{◌≡◌, Bool}
use Rattle.lost_lines.specs.Run.{Cut, Reply}
use Rattle.lost_replay.specs.Replayer.{Replays, outcome_of}
use Rattle.lost_replay.specs.declared.checker.Checker.{Checker}
use Rattle.lost_replay.specs.Said.{IsSaid}
use Rattle.lost_replay.specs.Tally.{Counted}

-- a line is counted, and what is said of it is by the outcome of the replay's answer to it
pub record Judges (old new : Checker) (is_internal_error : Bool) (said : Reply) : Type 0 where
  pub replayer_stays : new.replayer ≡ old.replayer
  pub counted : Counted old.tally new.tally (outcome_of old.replayer)
  pub says : IsSaid new.tally.lines (outcome_of old.replayer) said.text
  pub same_flag : said.is_internal_error ≡ is_internal_error

-- the step of what checks lines: a replay answers the line, and what is said of it is by the outcome of that answer
pub record Checks (old : Checker) (cut : Cut) (said : Reply) (new : Checker) : Type 0 where
  pub answer : Reply
  pub replays : Replays old.replayer cut answer new.replayer
  pub counted : Counted old.tally new.tally (outcome_of new.replayer)
  pub says : IsSaid new.tally.lines (outcome_of new.replayer) said.text
  pub same_flag : said.is_internal_error ≡ answer.is_internal_error
