-- What a desk has once a journal's lines were read. (Own.)
use Rattle.std.specs.Prelude.{◌≡◌, []}
use Rattle.lost_spec.specs.Text.{Text}
use Rattle.lost_spec.specs.Book.{Limits}
use Rattle.lost_desk.specs.Seen.{DeskSeen}
use Rattle.lost_worker.specs.Desking.{lists_of}
use Rattle.lost_journal.specs.Format.{IsBody, Keeps}
use Rattle.lost_keeping.specs.Kept.{lists_of_text, lists_kept, all_published}

-- it has what whole lines make
abbrev pub IsReadTo : Text → DeskSeen → Type 0
IsReadTo read d = lists_of_text d.limits read ≡ lists_of d

-- it has published just what a file keeps
pub record IsRecovered (file : Text) (d : DeskSeen) : Type 0 where
  pub body : Text
  pub is_body : IsBody body
  pub keeps : Keeps file body
  pub published : lists_kept d.limits body ≡ all_published d.published
