-- Histories of edits, and their beginnings.
use Rattle.std.specs.Prelude.{if◌then◌else◌, List, length, nat_le}
use Rattle.logbook.specs.Pages.{Book as TokenBook}
use Rattle.lost_spec.specs.Book.{Edit}

-- which history it is: each that is opened is another, with two seals of its own (own)
abbrev pub Opening : Type 0
Opening = TokenBook

-- a beginning of a history: its opening, and the edits so far (own)
pub record Beginning : Type 0 where
  pub opening : Opening
  pub list : List Edit

abbrev pub beginning : Opening → List Edit → Beginning
beginning opening list = record { opening = opening; list = list }

-- the longer of two lists; the first one where they are equally long (own)
abbrev pub longer : {Thing : Type 0} → List Thing → List Thing → List Thing
longer xs ys = if nat_le (length ys) (length xs) then xs else ys
