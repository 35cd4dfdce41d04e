-- Lemmas on the faults of a burst, by the result of a call.
use Rattle.std.proofs.Common.{◌≡◌, inl, ℕ, Bool, ◌++◌, List, Result, Ok, Err, IfErr, IsErrAnd, sym, subst}
use Rattle.lost_spec.specs.Text.{Text}
use Rattle.lost_lines.specs.Cutting.{lines_of}
use Rattle.lost_worker.specs.Lines.{Worker}
use Rattle.lost_connections.specs.declared.faults.ClientFault.{ClientFault}
use Rattle.lost_connections.specs.declared.faults.ClientFault.TheVariants.{Memory}
use Rattle.lost_connections.specs.Begun.{IsBegun}
use Rattle.lost_connections.specs.Replies.{Replied, AnswersAll, AnswersFront, IsAnswering}
use Rattle.lost_connections.proofs.BurstLemmas.{front_whole, front_alone, front_none, front_of_all, front_of_same}

-- what the exit of a `?` returns
pub exits_at : {T E : Type 0} (r : Result T E) (P : E → Type 0) (e : E) → IsErrAnd r (λ f. f ≡ e) → P e → IfErr r P
exits_at (Ok x) P e is p = absurd is
exits_at (Err f) P e is p = subst P (sym is) p

-- memory was refused, and so a fault came that may come while lines are answered
pub memory_at : {T : Type 0} (r : Result T ClientFault) → IfErr r (λ f. f ≡ Memory) → IfErr r IsAnswering
memory_at (Ok x) is = tt
memory_at (Err f) is = inl is

module _ {T : Type 0} (says : ℕ → Bool → Type 0) (name : Text) (old new : Worker) where
  pub front_whole_at : (kept piece g : Text) (x y : Replied) (r : Result T ClientFault) → IsBegun kept piece
      → IfErr r (AnswersFront says name old new (lines_of (kept ++ g)) x y) → IfErr r (AnswersFront says name old new (lines_of (piece ++ g)) x y)
  front_whole_at kept piece g x y (Ok v) begun front = tt
  front_whole_at kept piece g x y (Err f) begun front = front_whole says name old new kept piece g x y f begun front

  pub front_alone_at : (kept piece : Text) (x y : Replied) (r : Result T ClientFault) → IsBegun kept piece
      → IfErr r (AnswersFront says name old new (lines_of kept) x y) → IfErr r (AnswersFront says name old new (lines_of piece) x y)
  front_alone_at kept piece x y (Ok v) begun front = tt
  front_alone_at kept piece x y (Err f) begun front = front_alone says name old new kept piece x y f begun front

  -- memory was refused behind lines that were answered
  pub front_behind_at : (all same : List Text) (x y : Replied) (r : Result T ClientFault) → same ≡ all → IfErr r (λ f. f ≡ Memory)
      → AnswersAll says name old new all x y → IfErr r (AnswersFront says name old new same x y)
  front_behind_at all same x y (Ok v) e is answers = tt
  front_behind_at all same x y (Err f) e is answers =
      subst (λ (fault : ClientFault). AnswersFront says name old new same x y fault) (sym is) (front_of_same says name old new all same x y Memory e (front_of_all says name old new all x y answers))

-- memory was refused before any line was answered
pub front_none_at : {T : Type 0} (says : ℕ → Bool → Type 0) (name : Text) (worker : Worker) (all : List Text) (x : Replied) (r : Result T ClientFault) → IfErr r (λ f. f ≡ Memory)
    → IfErr r (AnswersFront says name worker worker all x x)
front_none_at says name worker all x (Ok v) is = tt
front_none_at says name worker all x (Err f) is = subst (λ (fault : ClientFault). AnswersFront says name worker worker all x x fault) (sym is) (front_none says name worker all x)
