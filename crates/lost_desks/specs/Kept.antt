-- What keeps the edits of desks. (Own.)
use Rattle.std.specs.Prelude.{◌≡◌, Option, Some, None}
use Rattle.sqlite_disk.specs.declared.Disk.{Ghosts}
use Rattle.lost_desk.specs.Seen.{DeskSeen}
use Rattle.lost_keeping.specs.declared.keeper.Keeper.{Keeper}
use Rattle.lost_keeping.specs.Keepers.{is_clean_keeper, IsCleanKeeper, IsKept}

module _ {D : Type 0} {g : Ghosts D} where
  -- where it kept what a desk had, it keeps what the desk has
  pub record KeepsOn (old : Keeper D g) (before : DeskSeen) (new : Keeper D g) (after : DeskSeen) : Type 0 where
    pub clean : is_clean_keeper new ≡ is_clean_keeper old
    pub kept : IsCleanKeeper old → IsKept old before → IsKept new after

  -- the same of what keeps the edits, if anything does; nothing else comes or goes
  abbrev pub StaysKept : Option (Keeper D g) → DeskSeen → Option (Keeper D g) → DeskSeen → Type 0
  StaysKept None before None after = Unit {0}
  StaysKept None before (Some new) after = ⊥
  StaysKept (Some old) before None after = ⊥
  StaysKept (Some old) before (Some new) after = KeepsOn old before new after
