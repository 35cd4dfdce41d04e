-- The two books of a replay, as those of lists of edits. (Own.)
use Rattle.std.specs.Prelude.{◌≡◌, length}
use Rattle.lost_spec.specs.Book.{Book, book_of}
use Rattle.lost_book.specs.Bounds.{widest}
use Rattle.lost_lines.specs.Run.{Cut, Reply}
use Rattle.lost_json.specs.Stream.{Terms, Lists}
use Rattle.lost_json.specs.Step.{Step}

-- the book that is published, and the book of the staged edits too
pub record Books : Type 0 where
  pub published : Book
  pub staged : Book

-- the books are those of the lists of edits, within the widest limits, and count as many edits
pub record AreBooksOf (lists : Lists) (b : Books) : Type 0 where
  pub published : b.published ≡ book_of widest lists.published
  pub staged : b.staged ≡ book_of widest lists.accepted
  pub published_edits : b.published.edits ≡ length lists.published
  pub staged_edits : b.staged.edits ≡ length lists.accepted

-- from these lists a line is answered by their step, and the books are then those of the lists after it
pub record StepsTo (terms : Terms) (lists : Lists) (cut : Cut) (reply : Reply) (new : Books) : Type 0 where
  pub later : Lists
  pub are : AreBooksOf later new
  pub step : Step terms lists cut reply later

-- a line is answered by the step of the lists that the books are of, whichever these are
pub record BooksStep (terms : Terms) (old : Books) (cut : Cut) (reply : Reply) (new : Books) : Type 0 where
  pub by_lists : (lists : Lists) → AreBooksOf lists old → StepsTo terms lists cut reply new
