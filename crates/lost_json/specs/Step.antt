-- How a line is answered from the lists of edits, and what becomes of them.
use Rattle.std.specs.Prelude.{◌≡◌, Bool, false, Option, Some, None, Result, Ok, Err}
use Rattle.lost_spec.specs.Text.{Text}
use Rattle.lost_reading.specs.declared.desk.DeskFault.{DeskFault}
use Rattle.lost_reading.specs.Desk.{Order, Stage, Commit, desk_line}
use Rattle.lost_lines.specs.Run.{Cut, Whole, TooLong, Unread, Reply}
use Rattle.lost_json.specs.Stream.{Terms, Lists, Mark, Unmarked, ShortOfMemory, RefusedMemory, IsTaken, book, keep, order_text, refused_text, is_short}

-- the lists after a line with this order: an edit is accepted unless it is refused, a commit publishes all that are
abbrev pub lists_after : Terms → Lists → Option (Result Order DeskFault) → Lists
lists_after terms l None = l
lists_after terms l (Some (Err fault)) = l
lists_after terms l (Some (Ok (Stage edit))) = record { accepted = keep terms l.accepted edit; published = l.published }
lists_after terms l (Some (Ok Commit)) = record { accepted = l.accepted; published = l.accepted }

-- the reply to a line with this order and a mark, and the lists after it
abbrev pub text_with : Terms → Lists → Text → Option (Result Order DeskFault) → Mark → Text
text_with terms l text order Unmarked = order_text terms l (lists_after terms l order) text order
text_with terms l text order ShortOfMemory = terms.short
text_with terms l text order RefusedMemory = refused_text 20

abbrev pub after_with : Terms → Lists → Option (Result Order DeskFault) → Mark → Lists
after_with terms l order Unmarked = lists_after terms l order
after_with terms l order ShortOfMemory = l
after_with terms l order RefusedMemory = l

-- a line with this order may have this mark
abbrev pub MayHave : Terms → Lists → Option (Result Order DeskFault) → Mark → Type 0
MayHave terms l order Unmarked = Unit {0}
MayHave terms l order ShortOfMemory = Unit {0}
MayHave terms l order RefusedMemory = IsTaken (book terms l.accepted) order

-- the step by a line with this order that was kept whole, under a mark
pub record IsAnswered (terms : Terms) (old : Lists) (text : Text) (order : Option (Result Order DeskFault)) (reply : Reply) (new : Lists) : Type 0 where
  pub mark : Mark
  pub may_have : MayHave terms old order mark
  pub text_is : reply.text ≡ text_with terms old text order mark
  pub memory_is : reply.is_internal_error ≡ is_short terms mark
  pub lists_are : new ≡ after_with terms old order mark

-- the step by a line whose content is not looked at
pub record IsSaid (said : Text) (is_internal_error : Bool) (old : Lists) (reply : Reply) (new : Lists) : Type 0 where
  pub text_is : reply.text ≡ said
  pub memory_is : reply.is_internal_error ≡ is_internal_error
  pub lists_are : new ≡ old

-- the step by a line as it was cut
abbrev pub Step : Terms → Lists → Cut → Reply → Lists → Type 0
Step terms old (Whole text) reply new = IsAnswered terms old text (desk_line text) reply new
Step terms old TooLong reply new = IsSaid terms.long false old reply new
Step terms old Unread reply new = IsSaid terms.short terms.counts_short old reply new
