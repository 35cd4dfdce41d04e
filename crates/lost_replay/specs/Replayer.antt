-- What a clause reads of what answers the lines of a replay.
use Rattle.std.specs.Prelude.{◌≡◌}
use Rattle.lost_spec.specs.Text.{Text}
use Rattle.lost_spec.specs.Moment.{Instant}
use Rattle.lost_spec.specs.Book.{empty_book}
use Rattle.lost_book.specs.Bounds.{widest}
use Rattle.lost_lines.specs.Run.{Cut, Reply}
use Rattle.lost_replay.specs.declared.replayer.Replayer.{Replayer}
use Rattle.lost_replay.specs.Books.{Books, BooksStep}
use Rattle.lost_replay.specs.declared.outcome.Outcome.{Outcome}
use Rattle.lost_replay.specs.Outcome.{IsOutcomeAt, IsListed}
use Rattle.lost_replay.specs.Replay.{replay_terms}

-- its books
abbrev pub books_of : Replayer → Books
books_of replayer = replayer.books

-- what its last answer is
abbrev pub outcome_of : Replayer → Outcome
outcome_of replayer = replayer.outcome

-- it answers as the server of this name at an instant, and no line came yet
pub record Begins (name : Text) (t : Instant) (replayer : Replayer) : Type 0 where
  pub name_is : replayer.name.now ≡ name
  pub moment_is : replayer.moment ≡ t
  pub books_are : replayer.books ≡ record { published = empty_book widest; staged = empty_book widest }

-- the step of what answers lines: name and moment stay, the books go by the step of their lists, and the outcome is that of the line and its reply
pub record Replays (old : Replayer) (cut : Cut) (reply : Reply) (new : Replayer) : Type 0 where
  pub name_stays : new.name.now ≡ old.name.now
  pub moment_stays : new.moment ≡ old.moment
  pub step : BooksStep (replay_terms old.name.now old.moment) old.books cut reply new.books
  pub outcome : IsOutcomeAt new.outcome cut reply.text
  pub listed : IsListed new.outcome
