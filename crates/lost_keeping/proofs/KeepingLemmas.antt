-- What lasts while a desk's lines are answered and its edits kept.
use Rattle.std.proofs.Common.{◌≡◌, ℕ, Bool, Result, refl, ◌∙◌, sym, subst, IsTrue}
use Rattle.sqlite_disk.specs.declared.Disk.{Ghosts}
use Rattle.lost_writing.specs.declared.desk_reply.DeskReply.{DeskReply}
use Rattle.lost_lines.specs.declared.counts.Counts.{Counts}
use Rattle.lost_lines.specs.declared.fault.ServeError.{ServeError}
use Rattle.lost_lines.specs.declared.turns.Turns.{Turns}
use Rattle.lost_lines.specs.Run.{Cut, Reply}
use Rattle.lost_lines.specs.Outcome.{Passage, IsOutcome}
use Rattle.lost_worker.specs.Desking.{IsSameDesk}
use Rattle.lost_worker.proofs.CarryLemmas.{kept_at}
use Rattle.lost_keeping.specs.declared.answering.Keeping.{Keeping}
use Rattle.lost_keeping.specs.Keepers.{is_clean_keeper, IsCleanKeeper, IsKept}
use Rattle.lost_keeping.specs.Serving.{Keeps}

module _ {T D V : Type 0} {g : Ghosts D} where
  -- what is referred to stays, and what keeps the edits keeps them
  pub record Stays (old new : Keeping T D V g) : Type 0 where
    pub desk : new.desk.ghost_name ≡ old.desk.ghost_name
    pub keeper : new.keeper.ghost_name ≡ old.keeper.ghost_name
    pub witness : new.witness.ghost_name ≡ old.witness.ghost_name
    pub same : IsSameDesk old.desk.now new.desk.now
    pub clean : is_clean_keeper new.keeper.now ≡ is_clean_keeper old.keeper.now
    pub kept : IsCleanKeeper old.keeper.now → IsKept old.keeper.now old.desk.now → IsKept new.keeper.now new.desk.now

  module _ (step : V → DeskReply → V → Type 0) where
    stays_none : (old : Keeping T D V g) → Stays old old
    stays_none old = record { desk = refl; keeper = refl; witness = refl; same = record { opening = refl; limits = refl }; clean = refl; kept = λ clean kept. kept }

    stays_step : (first old new : Keeping T D V g) (cut : Cut) (reply : Reply) → Stays first old → Keeps step old cut reply new → Stays first new
    stays_step first old new cut reply so_far one = record {
      desk = one.desk_stays ∙ so_far.desk;
      keeper = one.keeper_stays ∙ so_far.keeper;
      witness = one.witness_stays ∙ so_far.witness;
      same = record { opening = one.same.opening ∙ so_far.same.opening; limits = one.same.limits ∙ so_far.same.limits };
      clean = one.clean ∙ so_far.clean;
      kept = λ clean kept. one.kept (subst IsTrue (sym so_far.clean) clean) (so_far.kept clean kept);
    }

    pub stays_at : (says : ℕ → Bool → Type 0) (old new : Keeping T D V g) (turns : Turns) (p : Passage) (result : Result Counts ServeError) → IsOutcome says (Keeps step) old new turns p result → Stays old new
    stays_at says old new turns p result o = kept_at (Keeps step) (Stays old) (stays_step old) says old new (stays_none old) turns p result o
