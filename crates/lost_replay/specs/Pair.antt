-- Two books, of which one is published and one takes edits (own).
use Rattle.std.specs.Prelude.{◌≡◌, Bool, true, false, List}
use Rattle.lost_spec.specs.Book.{Book, Edit, after, after_all}
use Rattle.lost_replay.specs.Books.{Books}

-- what they are seen as: while the other book lacks edits nothing is staged that is not published
abbrev pub pair_seen : Book → Book → Bool → Books
pair_seen published other true = record { published = published; staged = published }
pair_seen published other false = record { published = published; staged = other }

-- the edits make the one that lacks them the one that has them
abbrev pub IsPair : Book → Book → List Edit → Bool → Type 0
IsPair published other edits true = after_all other edits ≡ published
IsPair published other edits false = after_all published edits ≡ other

-- one more edit is staged
abbrev pub with_staged : Books → Edit → Books
with_staged b edit = record { published = b.published; staged = after b.staged edit }

-- what is staged is published
abbrev pub with_committed : Books → Books
with_committed b = record { published = b.staged; staged = b.staged }
