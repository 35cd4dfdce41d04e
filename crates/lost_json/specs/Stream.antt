-- Lines of a stream: what each line of a stream of desk lines and other lines is answered with, by the lines before it.
-- (Own.)
use Rattle.std.specs.Prelude.{◌≡◌, ℕ, ◌-◌, Bool, true, false, not, ◌&&◌, if◌then◌else◌, List, [], ◌∷◌, ◌++◌, length, Option, Some, None, is_none, Result, Ok, Err, filter_map}
use Rattle.lost_spec.specs.declared.faults.EditError.{EditError}
use Rattle.lost_spec.specs.Text.{Text}
use Rattle.lost_spec.specs.Codes.{edit_code}
use Rattle.lost_spec.specs.Book.{Limits, Book, Edit, refusal, book_of}
use Rattle.lost_spec.specs.Request.{BadRequest, InternalError}
use Rattle.lost_reading.specs.declared.desk.DeskFault.{DeskFault}
use Rattle.lost_writing.specs.declared.desk_reply.DeskReply.TheVariants.{Staged, Committed, Refused}
use Rattle.lost_reading.specs.Desk.{Order, Stage, Commit, desk_line, desk_fault_code}
use Rattle.lost_writing.specs.DeskReplies.{desk_text}
use Rattle.lost_writing.specs.Replies.{reply_text}
use Rattle.lost_lines.specs.Cutting.{is_long}

-- ---- what a stream depends on

-- the limits of the books; the reply to a line that is marked as short of memory, and whether it is counted as one; the
-- reply to a line over the limit; and the reply to a line that is no desk line, over the published book
pub record Terms : Type 0 where
  pub limits : Limits
  pub short : Text
  pub counts_short : Bool
  pub long : Text
  pub other : Book → Text → Text

-- the edits that are accepted, staged or published, and those of them that are published
pub record Lists : Type 0 where
  pub accepted : List Edit
  pub published : List Edit

-- ---- lines and their marks

-- whether a growth was refused for a line: none was; one was, and the line is answered as short of memory; or the edit
-- or the commit that the line orders was refused for it, and the line is answered code 20
pub data Mark : Type 0 where
  Unmarked : Mark
  ShortOfMemory : Mark
  RefusedMemory : Mark

-- a line of the stream, with its mark
pub record Line : Type 0 where
  pub text : Text
  pub mark : Mark

abbrev pub is_unmarked : Mark → Bool
is_unmarked Unmarked = true
is_unmarked ShortOfMemory = false
is_unmarked RefusedMemory = false

-- a line is good where it is neither marked nor over the limit
abbrev pub is_good : Line → Bool
is_good line = is_unmarked line.mark && not (is_long line.text)

-- ---- the edits

abbrev pub book : Terms → List Edit → Book
book terms es = book_of terms.limits es

-- the edit that an order stages
abbrev pub staged_edit : Option (Result Order DeskFault) → Option Edit
staged_edit None = None
staged_edit (Some (Err fault)) = None
staged_edit (Some (Ok (Stage edit))) = Some edit
staged_edit (Some (Ok Commit)) = None

abbrev pub is_commit_order : Option (Result Order DeskFault) → Bool
is_commit_order None = false
is_commit_order (Some (Err fault)) = false
is_commit_order (Some (Ok (Stage edit))) = false
is_commit_order (Some (Ok Commit)) = true

-- the edit of a good line
abbrev pub edit_of_line : Line → Option Edit
edit_of_line line = if is_good line then staged_edit (desk_line line.text) else None

-- a good commit line
abbrev pub is_commit : Line → Bool
is_commit line = is_good line && is_commit_order (desk_line line.text)

-- an edit is kept behind others unless the book of those refuses it
abbrev pub keep : Terms → List Edit → Edit → List Edit
keep terms kept edit = if is_none (refusal (book terms kept) edit) then kept ++ edit ∷ [] else kept

-- those kept before, and then the edits, in order, that are not refused in the book of those kept before
abbrev pub kept_of : Terms → List Edit → List Edit → List Edit
kept_of terms kept [] = kept
kept_of terms kept (edit ∷ edits) = kept_of terms (keep terms kept edit) edits

-- the accepted edits: those at the start, and the edits of the lines that are accepted
abbrev pub accepted : Terms → Lists → List Line → List Edit
accepted terms start lines = kept_of terms start.accepted (filter_map edit_of_line lines)

-- the accepted edits as they were at the last commit line: those at a commit, where one comes later, or else these
abbrev pub published_from : Terms → Lists → List Line → List Edit → List Line → List Edit
published_from terms start before current [] = current
published_from terms start before current (line ∷ lines) =
    published_from terms start (before ++ line ∷ []) (if is_commit line then accepted terms start (before ++ line ∷ []) else current) lines

-- the edits that are published: those accepted up to the last good commit line, and without one those at the start
abbrev pub published : Terms → Lists → List Line → List Edit
published terms start lines = published_from terms start [] start.published lines

-- both, after these lines
abbrev pub lists_at : Terms → Lists → List Line → Lists
lists_at terms start lines = record { accepted = accepted terms start lines; published = published terms start lines }

-- ---- the replies

abbrev pub internal_error : Text
internal_error = reply_text InternalError

abbrev pub bad_request : Text
bad_request = reply_text BadRequest

abbrev pub refused_text : ℕ → Text
refused_text code = desk_text (Refused code)

-- the reply to an edit: its refusal, or how many edits are staged and not published
abbrev pub edit_text : Option EditError → ℕ → Text
edit_text (Some error) pending = refused_text (edit_code error)
edit_text None pending = desk_text (Staged pending)

-- the reply to a desk line with this order, or to another line where there is none, by the lists before the line and
-- those after it
abbrev pub order_text : Terms → Lists → Lists → Text → Option (Result Order DeskFault) → Text
order_text terms before later text None = terms.other (book terms before.published) text
order_text terms before later text (Some (Err fault)) = refused_text (desk_fault_code fault)
order_text terms before later text (Some (Ok (Stage edit))) = edit_text (refusal (book terms before.accepted) edit) (length later.accepted - length later.published)
order_text terms before later text (Some (Ok Commit)) = desk_text (Committed (length later.published))

-- the reply to a line that is not marked
abbrev pub unmarked_text : Terms → Lists → List Line → Line → Text
unmarked_text terms start before line =
    if is_long line.text then terms.long
    else order_text terms (lists_at terms start before) (lists_at terms start (before ++ line ∷ [])) line.text (desk_line line.text)

-- the reply to a line, by the lines before it
abbrev pub marked_text : Terms → Lists → List Line → Line → Mark → Text
marked_text terms start before line Unmarked = unmarked_text terms start before line
marked_text terms start before line ShortOfMemory = terms.short
marked_text terms start before line RefusedMemory = refused_text 20

abbrev pub text_after : Terms → Lists → List Line → Line → Text
text_after terms start before line = marked_text terms start before line line.mark

-- the replies to lines, in order, where these lines came before them
abbrev pub texts_after : Terms → Lists → List Line → List Line → Text
texts_after terms start before [] = []
texts_after terms start before (line ∷ lines) = text_after terms start before line ++ texts_after terms start (before ++ line ∷ []) lines

-- the text of a stream of lines: the reply to each, in order
abbrev pub stream_text : Terms → Lists → List Line → Text
stream_text terms start lines = texts_after terms start [] lines

-- whether a line is counted as answered `internalError`
abbrev pub is_short : Terms → Mark → Bool
is_short terms Unmarked = false
is_short terms ShortOfMemory = terms.counts_short
is_short terms RefusedMemory = false

-- ---- where code 20 may stand

-- the order is a commit, or an edit that the book does not refuse
abbrev pub IsTaken : Book → Option (Result Order DeskFault) → Type 0
IsTaken b None = ⊥
IsTaken b (Some (Err fault)) = ⊥
IsTaken b (Some (Ok (Stage edit))) = refusal b edit ≡ None
IsTaken b (Some (Ok Commit)) = Unit {0}

-- code 20 comes only at a line within the limit that orders a commit, or an edit that is not refused otherwise
abbrev pub IsMark : Terms → Lists → List Line → Line → Mark → Type 0
IsMark terms start before line Unmarked = Unit {0}
IsMark terms start before line ShortOfMemory = Unit {0}
IsMark terms start before line RefusedMemory = (is_long line.text ≡ false) × IsTaken (book terms (accepted terms start before)) (desk_line line.text)

abbrev pub AreMarksAfter : Terms → Lists → List Line → List Line → Type 0
AreMarksAfter terms start before [] = Unit {0}
AreMarksAfter terms start before (line ∷ lines) = IsMark terms start before line line.mark × AreMarksAfter terms start (before ++ line ∷ []) lines

abbrev pub AreMarks : Terms → Lists → List Line → Type 0
AreMarks terms start lines = AreMarksAfter terms start [] lines
