-- What contracts see of what keeps a desk's edits. (Own.)
use Rattle.std.specs.Prelude.{◌≡◌, Bool, IsTrue, [], ◌++◌}
use Rattle.sqlite_disk.specs.declared.Disk.{Ghosts}
use Rattle.lost_desk.specs.Seen.{DeskSeen}
use Rattle.lost_journal.specs.declared.journal.Journal.{Journal}
use Rattle.lost_journal.specs.Seen.{is_clean, body_of, pending_of}
use Rattle.lost_keeping.specs.declared.keeper.Keeper.{Keeper}
use Rattle.lost_keeping.specs.Kept.{IsKeptFor, lists_kept, all_published, OrdersCommit}
use Rattle.lost_lines.specs.Cutting.{last_piece}

module _ {D : Type 0} {g : Ghosts D} where
  -- its journal, and whether it keeps a commit that could not be published
  abbrev pub journal_of : Keeper D g → Journal D g
  journal_of k = k.journal

  abbrev pub owes_of : Keeper D g → Bool
  owes_of k = k.owes

  -- whether its disk has told the truth so far
  abbrev pub is_clean_keeper : Keeper D g → Bool
  is_clean_keeper k = is_clean k.journal

  abbrev pub IsCleanKeeper : Keeper D g → Type 0
  IsCleanKeeper k = IsTrue (is_clean k.journal)

  -- it keeps what a desk has
  abbrev pub IsKept : Keeper D g → DeskSeen → Type 0
  IsKept k d = IsKeptFor (body_of k.journal) (pending_of k.journal) k.owes d

  -- it keeps all that a desk has, published and pending
  pub record IsAllKept (k : Keeper D g) (d : DeskSeen) : Type 0 where
    pub kept : lists_kept d.limits (body_of k.journal) ≡ all_published (d.published ++ d.pending)
    pub nothing : pending_of k.journal ≡ []
    pub commits : OrdersCommit (last_piece (body_of k.journal))
