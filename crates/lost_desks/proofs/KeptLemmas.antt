-- What keeps the edits of desks keeps them from call to call.
use Rattle.std.proofs.Common.{◌≡◌, ◌∙◌, IsTrue, Option, Some, None, refl, sym, subst}
use Rattle.sqlite_disk.specs.declared.Disk.{Ghosts}
use Rattle.lost_desk.specs.Seen.{DeskSeen}
use Rattle.lost_keeping.specs.declared.keeper.Keeper.{Keeper}
use Rattle.lost_desks.specs.Kept.{KeepsOn, StaysKept}

module _ {D : Type 0} {g : Ghosts D} where
  keeps_again : (a b c : Keeper D g) (x y z : DeskSeen) → KeepsOn a x b y → KeepsOn b y c z → KeepsOn a x c z
  keeps_again a b c x y z first second = record {
    clean = second.clean ∙ first.clean;
    kept = λ clean kept. second.kept (subst IsTrue (sym first.clean) clean) (first.kept clean kept);
  }

  pub stays_again : (a b c : Option (Keeper D g)) (x y z : DeskSeen) → StaysKept a x b y → StaysKept b y c z → StaysKept a x c z
  stays_again None None None x y z first second = tt
  stays_again None None (Some c) x y z first second = second
  stays_again None (Some b) c x y z first second = absurd first
  stays_again (Some a) None c x y z first second = absurd first
  stays_again (Some a) (Some b) None x y z first second = second
  stays_again (Some a) (Some b) (Some c) x y z first second = keeps_again a b c x y z first second

  pub stays_as_is : (a : Option (Keeper D g)) (x : DeskSeen) → StaysKept a x a x
  stays_as_is None x = tt
  stays_as_is (Some a) x = record { clean = refl; kept = λ clean kept. kept }
