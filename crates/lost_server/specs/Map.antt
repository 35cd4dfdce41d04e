-- What a map makes of a desk. (Own.)
use Rattle.std.specs.Prelude.{◌≡◌, ◌≢◌, ◌<◌, ℕ, ◌+◌, Bool, true, false, if◌then◌else◌, List, [], length, map, count_by, Option, IfSome}
use Rattle.lost_spec.specs.Text.{Text}
use Rattle.lost_writing.specs.declared.desk_reply.DeskReply.{DeskReply}
use Rattle.lost_writing.specs.declared.desk_reply.DeskReply.TheVariants.{Staged, Committed, Refused as RefusedReply}
use Rattle.lost_lines.specs.Cutting.{lines_of}
use Rattle.lost_lines.specs.Run.{Run}
use Rattle.lost_json.specs.Stream.{Lists, Line, Unmarked, lists_at}
use Rattle.lost_json.specs.Step.{Step}
use Rattle.lost_desk.specs.Seen.{DeskSeen}
use Rattle.lost_worker.specs.Desking.{desk_terms, lists_of, said}
use Rattle.lost_worker.specs.Sum.{capped}
use Rattle.lost_server.specs.declared.map.MapFound.{MapFound}
use Rattle.lost_server.specs.declared.order.OnRefusal.{OnRefusal}
use Rattle.lost_server.specs.declared.order.OnRefusal.TheVariants.{Stop, GoOn}
use Rattle.lost_server.specs.declared.server_fault.MapFault.{MapFault}
use Rattle.lost_server.specs.declared.server_fault.MapFault.TheVariants.{Unopened, Unread, Refused, Memory}

-- ---- the counts of a map's lines

abbrev pub is_refusal : DeskReply → Bool
is_refusal (Staged pending) = false
is_refusal (Committed edition) = false
is_refusal (RefusedReply code) = true

-- the counts after one more reply; a number stays at its greatest value
abbrev pub counted : MapFound → DeskReply → MapFound
counted found reply = record {
  lines = capped (found.lines + 1);
  refused = if is_refusal reply then capped (found.refused + 1) else found.refused;
}

-- ---- a map that was read

-- all lines of a map were answered as those of a desk's connection are, which took the desk's lists from those of one desk to these, and they were counted, and the refused ones too
pub record IsMapRead (unread : Option Text) (old : DeskSeen) (lists : Lists) (found : MapFound) : Type 0 where
  pub lines : List Text
  pub read : IfSome unread (λ bytes. lines ≡ lines_of bytes)
  pub given : List DeskReply
  pub run : Run (Step (desk_terms old.limits)) (lists_of old) lines (map said given) lists
  pub lines_are : found.lines ≡ capped (length lines)
  pub refused_are : found.refused ≡ capped (count_by is_refusal given)

-- a map was read, and the desk has published what its lines publish, from what it had
pub record IsLoaded (unread : Option Text) (old new : DeskSeen) (found : MapFound) : Type 0 where
  pub lists : Lists
  pub answered : IsMapRead unread old lists found
  pub published : new.published ≡ lists.published

-- ---- a map that is loaded whole

-- a line for which no memory was refused
abbrev pub unmarked : Text → Line
unmarked text = record { text = text; mark = Unmarked }

-- what lines make of a desk's lists where memory is refused for none of them: counted from the lines alone
abbrev pub lists_of_map : DeskSeen → List Text → Lists
lists_of_map old lines = lists_at (desk_terms old.limits) (lists_of old) (map unmarked lines)

-- the desk has published all edits that the lines of the map make, and no edit stands behind the last commit
abbrev pub IsWhole : Option Text → DeskSeen → DeskSeen → Type 0
IsWhole unread old new = IfSome unread (λ bytes. lists_of_map old (lines_of bytes) ≡ record { accepted = new.published; published = new.published })

-- ---- a map that is not loaded

-- a line was refused, or an edit stands behind the last commit; the desk is as the map's lines left it
pub record IsRefused (unread : Option Text) (old new : DeskSeen) (refused pending : ℕ) : Type 0 where
  pub lines : ℕ
  pub answered : IsMapRead unread old (lists_of new) (record { lines = lines; refused = refused })
  pub pending_are : pending ≡ length new.pending
  pub is_some : 0 < refused + pending

-- what each fault says: a map is refused only where it is to stop, and memory for dropping pending edits is short only where it is to go on
abbrev pub IsFault : Option Text → DeskSeen → DeskSeen → OnRefusal → MapFault → Type 0
IsFault unread old new on_refusal (Unopened kind) = ⊥
IsFault unread old new on_refusal Unread = Unit {0}
IsFault unread old new on_refusal (Refused refused pending) = (on_refusal ≡ Stop) × IsRefused unread old new refused pending
IsFault unread old new on_refusal Memory = (on_refusal ≡ GoOn) × (new.pending ≢ [])
