-- What a copy is, and how it takes in what is published.
use Rattle.std.specs.Prelude.{◌≡◌, IsTrue, List, [], ◌∷◌, fold}
use Rattle.lost_spec.specs.Book.{Limits, Edit, after, book_of, empty_book, is_accepted}
use Rattle.lost_mapping.specs.Edit.{edit_of}
use Rattle.lost_history.specs.History.{Opening, beginning}
use Rattle.lost_desk.specs.declared.version.Version.{Version}
use Rattle.lost_desk.specs.declared.version.Operation.{Operation}
use Rattle.lost_desk.specs.declared.version.Operation.TheVariants.{Change, Mark}

-- a change is an edit of the book, and a mark says whose book it is. The seal stays
abbrev pub taken : Version → Operation → Version
taken v (Change edit) = record { book = after v.book (edit_of edit); front = v.front; seal = v.seal }
taken v (Mark front) = record { book = v.book; front = front; seal = v.seal }

abbrev pub taken_all : Version → List Operation → Version
taken_all v operations = fold taken v operations

-- the edits among the operations
abbrev pub edits_in : List Operation → List Edit
edits_in [] = []
edits_in (Change edit ∷ rest) = edit_of edit ∷ edits_in rest
edits_in (Mark front ∷ rest) = edits_in rest

-- the copy is the book of its list of edits, which is accepted, and it holds a seal of the list's opening. An opening has two seals, one for each copy: so
-- there are no other copies of this opening
pub record IsBookOfItsList (v : Version) : Type 0 where
  pub book : v.book ≡ book_of v.book.limits v.front.list
  pub accepted : IsTrue (is_accepted v.book.limits v.front.list)
  pub sealed : v.seal ≡ v.front.opening

-- the first copies
abbrev pub first_version : Opening → Limits → Version
first_version opening limits = record { book = empty_book limits; front = beginning opening []; seal = opening }
