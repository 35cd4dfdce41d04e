-- How a desk's lines are answered, and its edits kept. (Own.)
use Rattle.std.specs.Prelude.{◌≡◌, ◌⊎◌, Some, None, ◌++◌}
use Rattle.sqlite_disk.specs.declared.Disk.{Ghosts}
use Rattle.lost_spec.specs.Text.{Text}
use Rattle.lost_spec.specs.Laws.{BeginsWith}
use Rattle.lost_writing.specs.declared.desk_reply.DeskReply.{DeskReply}
use Rattle.lost_writing.specs.declared.desk_reply.DeskReply.TheVariants.{Refused}
use Rattle.lost_lines.specs.Run.{Cut, Reply}
use Rattle.lost_json.specs.Step.{Step}
use Rattle.lost_worker.specs.Desking.{IsSameDesk, desk_terms, lists_of, said}
use Rattle.lost_keeping.specs.declared.answering.Keeping.{Keeping}
use Rattle.lost_keeping.specs.Keepers.{is_clean_keeper, IsCleanKeeper, IsKept}

module _ {T D V : Type 0} {g : Ghosts D} where
  -- the step of what answers lines: what it refers to stays; what keeps the desk's edits keeps them again; and the lists go by theirs, unless the line was refused since it could not be kept
  pub record Keeps (step : V → DeskReply → V → Type 0) (old : Keeping T D V g) (cut : Cut) (reply : Reply) (new : Keeping T D V g) : Type 0 where
    pub desk_stays : new.desk.ghost_name ≡ old.desk.ghost_name
    pub keeper_stays : new.keeper.ghost_name ≡ old.keeper.ghost_name
    pub witness_stays : new.witness.ghost_name ≡ old.witness.ghost_name
    pub same : IsSameDesk old.desk.now new.desk.now
    pub clean : is_clean_keeper new.keeper.now ≡ is_clean_keeper old.keeper.now
    pub kept : IsCleanKeeper old.keeper.now → IsKept old.keeper.now old.desk.now → IsKept new.keeper.now new.desk.now
    pub given : DeskReply
    pub is_said : reply ≡ said given
    pub answered : Step (desk_terms old.desk.now.limits) (lists_of old.desk.now) cut reply (lists_of new.desk.now) ⊎ ((given ≡ Refused 23) × (lists_of new.desk.now ≡ lists_of old.desk.now))
    pub saw : step old.witness.now given new.witness.now
