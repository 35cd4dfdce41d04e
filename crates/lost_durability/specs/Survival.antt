-- What survives a crash. (Own.)
use Rattle.std.specs.Prelude.{◌≡◌, ◌⊎◌}
use Rattle.sqlite_disk.specs.declared.Disk.{Ghosts}
use Rattle.lost_spec.specs.Text.{Text}
use Rattle.lost_spec.specs.Laws.{BeginsWith}
use Rattle.lost_desk.specs.Seen.{DeskSeen}
use Rattle.lost_journal.specs.Format.{IsTornAfter}
use Rattle.lost_journal.specs.Seen.{MayLeave, body_of}
use Rattle.lost_keeping.specs.declared.keeper.Keeper.{Keeper}
use Rattle.lost_keeping.specs.Keepers.{journal_of}
use Rattle.lost_keeping.specs.Recovery.{IsRecovered}

module _ {D : Type 0} {g : Ghosts D} where
  -- from each file that a crash may leave, unless its last gate is torn, a desk of the same limits recovers a list that begins with what was published
  abbrev pub Survives : Keeper D g → DeskSeen → DeskSeen → Type 0
  Survives k before after =
      (c : Text) → MayLeave (journal_of k) c → after.limits ≡ before.limits → IsRecovered c after
      → IsTornAfter c (body_of (journal_of k)) ⊎ BeginsWith after.published before.published
