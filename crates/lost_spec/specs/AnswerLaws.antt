-- A law of all answers: mappings that are not live do not matter.
use Rattle.std.specs.Prelude.{◌≡◌, filter}
use Rattle.lost_spec.specs.Text.{Text}
use Rattle.lost_spec.specs.Moment.{Instant}
use Rattle.lost_spec.specs.Mapping.{is_live}
use Rattle.lost_spec.specs.Book.{Book}
use Rattle.lost_spec.specs.Request.{Request}
use Rattle.lost_spec.specs.Answer.{answer}

-- a book without its mappings that are not live at t; its number of edits stays
abbrev pub without_expired : Book → Instant → Book
without_expired b t = record b { mappings = filter (λ m. is_live m t) b.mappings }

-- the answer to any request over a book is the answer over that book without the mappings that are not live
abbrev pub ExpiredDoNotMatter : Type 0
ExpiredDoNotMatter = (b : Book) (name : Text) (t : Instant) (request : Request) → answer b name t request ≡ answer (without_expired b t) name t request
