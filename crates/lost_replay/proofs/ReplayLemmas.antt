-- A stream that is served by what answers the lines of a replay is one by lists of edits that begin empty.
use Rattle.std.proofs.Common.{◌≡◌, ◌⊎◌, inl, inr, ℕ, ◌+◌, Bool, false, List, [], ◌∷◌, length, Option, Result, Ok, Err, IfErr, OnErr, refl, ◌∙◌}
use Rattle.std.proofs.lemmas.Result.{IfOk-weaker}
use Rattle.lost_spec.specs.Text.{Text}
use Rattle.lost_spec.specs.Moment.{Instant}
use Rattle.lost_spec.specs.Book.{empty_book}
use Rattle.lost_book.specs.Bounds.{widest}
use Rattle.lost_lines.specs.declared.counts.Counts.{Counts}
use Rattle.lost_lines.specs.declared.fault.ServeError.{ServeError}
use Rattle.lost_lines.specs.declared.turns.Turns.{Turns}
use Rattle.lost_lines.specs.Run.{Cut, Reply, Run}
use Rattle.lost_lines.specs.Stream.{IsServed, IsCutOff, IsWholeSoFar, IsSpent, IsHeldBack}
use Rattle.lost_lines.specs.Outcome.{Passage, IsOutcome}
use Rattle.lost_json.specs.Stream.{Lists}
use Rattle.lost_json.specs.Step.{Step}
use Rattle.lost_json.proofs.OutcomeLemmas.{streamed, streamed_in_part, streamed_so_far, stream_spent}
use Rattle.lost_replay.specs.declared.replayer.Replayer.{Replayer}
use Rattle.lost_replay.specs.Books.{Books, AreBooksOf, BooksStep}
use Rattle.lost_replay.specs.Replay.{replay_terms, no_edits, IsReplayed, IsReplayedInPart, IsReplayedSoFar, IsReplaySpent, IsReplayOutcome}
use Rattle.lost_replay.specs.Replayer.{Replays}

-- two empty books
abbrev pub no_books : Books
no_books = record { published = empty_book widest; staged = empty_book widest }

-- they are those of no edits
none_are : (b : Books) → b ≡ no_books → AreBooksOf no_edits b
none_are b fresh = rw fresh (record { published = refl; staged = refl; published_edits = refl; staged_edits = refl })

module _ (name : Text) (t : Instant) where
  -- a run of what answers the lines is one by lists
  pub record RunsTo (lists : Lists) (lines : List Text) (replies : List Reply) (new : Replayer) : Type 0 where
    pub end : Lists
    pub are : AreBooksOf end new.books
    pub run : Run (Step (replay_terms name t)) lists lines replies end

  -- a step of what answers the lines is a step of its books
  step_of_books : (old new : Replayer) (cut : Cut) (reply : Reply) → old.name.now ≡ name → old.moment ≡ t → Replays old cut reply new → BooksStep (replay_terms name t) old.books cut reply new.books
  step_of_books old new cut reply named timed replays = rw (named, timed) at replays.step

  pub runs_to : (lists : Lists) (lines : List Text) (replies : List Reply) (old new : Replayer) → old.name.now ≡ name → old.moment ≡ t → AreBooksOf lists old.books → Run Replays old lines replies new → RunsTo lists lines replies new
  runs_to lists [] [] old new named timed are run = record { end = lists; are = rw run are; run = refl }
  runs_to lists [] (reply ∷ replies) old new named timed are run = absurd run
  runs_to lists (line ∷ lines) [] old new named timed are run = absurd run
  runs_to lists (line ∷ lines) (reply ∷ replies) old new named timed are (cut, next, is_cut, replays, rest) =
      let one = (step_of_books old next cut reply named timed replays).by_lists lists are in
      let more = runs_to one.later lines replies next new (replays.name_stays ∙ named) (replays.moment_stays ∙ timed) one.are rest in
      record { end = more.end; are = more.are; run = (cut, one.later, is_cut, one.step, more.run) }

  module _ (says : ℕ → Bool → Type 0) (old new : Replayer) (named : old.name.now ≡ name) (timed : old.moment ≡ t) (fresh : old.books ≡ no_books) where
    pub from_none : (lines : List Text) (replies : List Reply) → Run Replays old lines replies new → RunsTo no_edits lines replies new
    from_none lines replies run = runs_to no_edits lines replies old new named timed (none_are old.books fresh) run

    replayed : (unread before after : Option Text) (counts : Counts) → IsServed says Replays old new unread before after counts → IsReplayed name t unread before after counts
    replayed unread before after counts s =
        let r = from_none s.lines s.replies s.run in
        record { end = r.end; streamed = streamed _ _ _ s.lines s.replies r.run unread before after counts s.read s.written s.counted }

    replayed_in_part : (unread before after : Option Text) → IsCutOff says Replays old new unread before after → IsReplayedInPart name t unread before after
    replayed_in_part unread before after s =
        let r = from_none s.lines s.replies s.run in
        record { end = r.end; streamed = streamed_in_part _ _ _ s.lines s.replies r.run unread before after s.read s.written }

    replayed_so_far : (most : ℕ) (unread left before after : Option Text) → IsWholeSoFar says Replays old new most unread left before after → IsReplayedSoFar name t most unread left before after
    replayed_so_far most unread left before after s =
        let r = from_none s.lines s.replies s.run in
        record { end = r.end; streamed = streamed_so_far _ _ _ s.lines s.replies r.run most unread left before after s.consumed s.read s.ended s.written }

    -- the gate refuses no line, so the turns are spent
    replay_spent : ((line : ℕ) → says line false → ⊥) → (turns : Turns) (unread left before after : Option Text) (reads : ℕ) (has_ended : Bool)
        → IsSpent says Replays old new turns unread left before after reads has_ended ⊎ IsHeldBack says Replays old new turns.lines unread left before after has_ended
        → IsReplaySpent name t turns unread left before after reads has_ended
    replay_spent lets turns unread left before after reads has_ended (inl s) =
        let w = s.whole in
        let r = from_none w.lines w.replies w.run in
        record { end = r.end; streamed = stream_spent _ _ _ w.lines w.replies r.run turns unread left before after w.consumed reads has_ended w.read w.ended w.written s.spent }
    replay_spent lets turns unread left before after reads has_ended (inr held) = absurd (lets (length held.lines + 1) held.refused)

    -- what a fault leaves, whichever it is
    of_fault : {T E : Type 0} (r : Result T E) (P : Type 0) (Q : E → Type 0) → ((e : E) → P → Q e) → OnErr r P → IfErr r Q
    of_fault (Ok x) P Q follows left = tt
    of_fault (Err e) P Q follows left = follows e left

    pub replay_outcome : ((line : ℕ) → says line false → ⊥) → (turns : Turns) (p : Passage) (result : Result Counts ServeError) → IsOutcome says Replays old new turns p result → IsReplayOutcome name t turns p result
    replay_outcome lets turns p result o = record {
      replayed = IfOk-weaker result _ _ (λ counts s. replayed p.unread p.before p.after counts s) o.served;
      within = o.within;
      in_part = of_fault result _ _ (λ e s other. replayed_in_part p.unread p.before p.after s) o.cut_off;
      so_far = λ is. replayed_so_far turns.lines p.unread p.left p.before p.after (o.whole is);
      spent = λ is. replay_spent lets turns p.unread p.left p.before p.after p.reads p.ended (o.spent is);
    }
