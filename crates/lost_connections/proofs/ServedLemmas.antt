-- What a stream of a known text says of the lines of a connection.
use Rattle.std.proofs.Common.{◌≡◌, ◌⊎◌, inl, inr, ⊎_elim, ℕ, ◌+◌, ◌<◌, ◌≤◌, Bool, true, false, Option, None, Some, List, [], ◌∷◌, ◌++◌, length, length-append, take, drop, take-append-drop, refl, sym, ap, subst, ◌∙◌, append_assoc, append-nil, arith}
use Rattle.std.specs.Io.KnownBytes.{Consumes}
use lib.Seq.{take-append_seam}
use Rattle.std.proofs.lemmas.List.{take-append-le}
use Rattle.std.proofs.lemmas.List.Sums.{count_by-le-length}
use Rattle.lost_spec.specs.Text.{Text}
use Rattle.lost_lines.specs.Cutting.{cut, ended_lines, last_piece, piece_lines, lines_of, is_long}
use Rattle.lost_lines.specs.Gate.{LetThrough}
use Rattle.lost_lines.specs.Run.{Reply, Run, text_of}
use Rattle.lost_lines.specs.Serving.{Adds}
use Rattle.lost_lines.specs.declared.counts.Counts.{Counts}
use Rattle.lost_lines.specs.declared.turns.Turns.{Turns}
use Rattle.lost_lines.specs.Stream.{IsServed, IsCutOff, IsSpent as TurnsAreSpent, IsHeldBack, IsNext, StandsPast}
use Rattle.lost_lines.proofs.CuttingLemmas.{lines_of-append}
use Rattle.lost_worker.specs.Lines.{Worker, Answers}
use Rattle.lost_connections.specs.declared.faults.ClientFault.TheVariants.{Memory, Spent}
use Rattle.lost_connections.specs.Replies.{Replied, sum_of, onward, AnswersAll, AnswersFront, IsSpent}

-- a run has a reply for each line
run_length : (name : Text) (old new : Worker) (ls : List Text) (rs : List Reply) → Run (Answers name) old ls rs new → length rs ≡ length ls
run_length name old new [] [] run = refl
run_length name old new [] (r ∷ rs) run = absurd run
run_length name old new (l ∷ ls) [] run = absurd run
run_length name old new (l ∷ ls) (r ∷ rs) (c, next, is, does, rest) = let same = run_length name next new ls rs rest in omega (arith, same)

-- no more lines are long, or short of memory, than there are
pub record AreFew (counts : Counts) : Type 0 where
  pub long_lines : counts.long_lines ≤ counts.lines
  pub memory : counts.memory ≤ counts.lines
  pub faults : counts.faults ≡ 0

pub are_few : (says : ℕ → Bool → Type 0) (name : Text) (old new : Worker) (unread before after : Option Text) (counts : Counts) → IsServed says (Answers name) old new unread before after counts → AreFew counts
are_few says name old new unread before after counts s =
    let replies = run_length name old new s.lines s.replies s.run in
    let lines = s.counted.lines_answered in
    let long = s.counted.long_lines in
    let memory = s.counted.memory in
    record {
      long_lines = omega (arith, lines, long, count_by-le-length is_long s.lines);
      memory = omega (arith, lines, memory, replies, count_by-le-length (λ (r : Reply). r.is_internal_error) s.replies);
      faults = s.counted.faults;
    }

piece_lines-few : (p : Text) → length (piece_lines p) ≤ 1
piece_lines-few [] = omega arith
piece_lines-few (b ∷ p) = omega arith

-- lines at the front of others, whatever line stands behind them
front_in : (ended lines : List Text) (line p : Text) → ended ++ piece_lines p ≡ lines ++ line ∷ [] → ended ≡ lines ++ drop (length lines) ended
front_in ended lines line p e =
    let few : length (piece_lines p) ≤ 1 = piece_lines-few p in
    let counted = ap (λ (ls : List Text). length ls) e in
    let within : length lines ≤ length ended = omega (arith, few, counted, length-append ended (piece_lines p), length-append lines (line ∷ [])) in
    let front : lines ≡ take (length lines) ended =
    sym (take-append_seam lines (line ∷ [])) ∙ ap (λ (ls : List Text). take (length lines) ls) (sym e) ∙ take-append-le (length lines) ended (piece_lines p) within in
    sym (take-append-drop (length lines) ended) ∙ ap (λ (ls : List Text). ls ++ drop (length lines) ended) (sym front)

-- the lines of bytes begin with those that a front of them ends
begins_ended : (consumed left : Text) → lines_of (consumed ++ left) ≡ ended_lines consumed ++ lines_of (last_piece consumed ++ left)
begins_ended consumed left = lines_of-append consumed left (ended_lines consumed) (last_piece consumed) refl

-- lines are a front of those of a text
pub record IsFrontOf (text : Text) (lines : List Text) : Type 0 where
  pub others : List Text
  pub begins : lines_of text ≡ lines ++ others

front_of_ended : (text consumed left : Text) (lines rest : List Text) → text ≡ consumed ++ left → ended_lines consumed ≡ lines ++ rest → IsFrontOf text lines
front_of_ended text consumed left lines rest read front = record {
  others = rest ++ lines_of (last_piece consumed ++ left);
  begins = ap lines_of read ∙ begins_ended consumed left ∙ ap (λ (ls : List Text). ls ++ lines_of (last_piece consumed ++ left)) front ∙ append_assoc lines rest (lines_of (last_piece consumed ++ left));
}

front_from_whole : (text : Text) (left : Option Text) (consumed : Text) (lines : List Text) (most : ℕ) → Consumes (Some text) left consumed → lines ≡ take most (ended_lines consumed) → IsFrontOf text lines
front_from_whole text None consumed lines most read taken = absurd read
front_from_whole text (Some left) consumed lines most read taken =
    front_of_ended text consumed left lines (drop most (ended_lines consumed)) read
    (sym (take-append-drop most (ended_lines consumed)) ∙ ap (λ (ls : List Text). ls ++ drop most (ended_lines consumed)) (sym taken))

front_from_next : (text : Text) (left : Option Text) (consumed : Text) (lines : List Text) (line : Text) (ended : Bool) → Consumes (Some text) left consumed → IsNext lines line consumed ended → IsFrontOf text lines
front_from_next text None consumed lines line ended read next = absurd read
front_from_next text (Some left) consumed lines line ended read next = ⊎_elim
    (λ (more : (others : List Text) × (ended_lines consumed ≡ lines ++ line ∷ others)). front_of_ended text consumed left lines (line ∷ more.0) read more.1)
    (λ (last : (ended ≡ true) × (lines_of consumed ≡ lines ++ line ∷ [])).
    front_of_ended text consumed left lines (drop (length lines) (ended_lines consumed)) read (front_in (ended_lines consumed) lines line (last_piece consumed) last.1))
    next

memory_is_spent : Memory ≡ Spent → ⊥
memory_is_spent is = cc

module _ (says : ℕ → Bool → Type 0) (name : Text) (old new : Worker) (text : Text) (x y : Replied) where
  pub all_from_served : (counts : Counts) → IsServed (onward says x.counts.lines) (Answers name) old new (Some text) (Some x.unsent) (Some y.unsent) counts
      → y.counts ≡ sum_of x.counts counts → y.most ≡ x.most → AnswersAll says name old new (lines_of text) x y
  all_from_served counts s same most = record {
    replies = s.replies;
    run = subst (λ (ls : List Text). Run (Answers name) old ls s.replies new) s.read s.run;
    let_through = subst (λ (ls : List Text). LetThrough (onward says x.counts.lines) (length ls)) s.read s.let_through;
    behind = s.written;
    counted = subst (λ (ls : List Text). Adds x.counts y.counts ls s.replies) s.read (record {
      lines_answered = ap (λ (c : Counts). c.lines) same ∙ ap (λ (n : ℕ). x.counts.lines + n) s.counted.lines_answered;
      long_lines = ap (λ (c : Counts). c.long_lines) same ∙ ap (λ (n : ℕ). x.counts.long_lines + n) s.counted.long_lines;
      memory = ap (λ (c : Counts). c.memory) same ∙ ap (λ (n : ℕ). x.counts.memory + n) s.counted.memory;
      faults = ap (λ (c : Counts). c.faults) same;
    });
    same_most = most;
  }

  -- memory was refused
  pub front_from_cut_off : IsCutOff (onward says x.counts.lines) (Answers name) old new (Some text) (Some x.unsent) (Some y.unsent)
      → y.counts ≡ x.counts → y.most ≡ x.most → AnswersFront says name old new (lines_of text) x y Memory
  front_from_cut_off s counts most = record {
    lines = s.lines;
    others = s.read.0;
    begins = s.read.1;
    replies = s.replies;
    answered = record {
      run = s.run;
      let_through = s.let_through;
      behind = s.written;
      counted = inl counts;
      same_most = most;
      cause = inl refl;
      whole = λ is. absurd (memory_is_spent is);
      spent = λ is. absurd (memory_is_spent is);
    };
  }

  -- no further line may be answered
  spent_front : (lines : List Text) (replies : List Reply) → IsFrontOf text lines → Run (Answers name) old lines replies new → LetThrough (onward says x.counts.lines) (length lines)
      → y.unsent ≡ x.unsent ++ text_of replies → IsSpent says x.most x.counts.lines (length lines) → y.counts ≡ x.counts → y.most ≡ x.most → AnswersFront says name old new (lines_of text) x y Spent
  spent_front lines replies front run through whole spent counts most = record {
    lines = lines;
    others = front.others;
    begins = front.begins;
    replies = replies;
    answered = record {
      run = run;
      let_through = through;
      behind = (text_of replies, [], sym (append-nil (text_of replies)), whole);
      counted = inl counts;
      same_most = most;
      cause = inr refl;
      whole = λ is. whole;
      spent = λ is. spent;
    };
  }

  pub front_from_spent : (turns : Turns) (left : Option Text) (reads : ℕ) (ended : Bool) → x.counts.lines + turns.lines ≡ x.most → reads < turns.reads
      → TurnsAreSpent (onward says x.counts.lines) (Answers name) old new turns (Some text) left (Some x.unsent) (Some y.unsent) reads ended
      ⊎ IsHeldBack (onward says x.counts.lines) (Answers name) old new turns.lines (Some text) left (Some x.unsent) (Some y.unsent) ended
      → y.counts ≡ x.counts → y.most ≡ x.most → AnswersFront says name old new (lines_of text) x y Spent
  front_from_spent turns left reads ended room few why counts most = ⊎_elim
      (λ (s : TurnsAreSpent (onward says x.counts.lines) (Answers name) old new turns (Some text) left (Some x.unsent) (Some y.unsent) reads ended).
      let full : length s.whole.lines ≡ turns.lines = ⊎_elim
      (λ (past : StandsPast turns.lines s.whole.lines s.whole.consumed). past.spent)
      (λ (late : (reads ≡ turns.reads) × (ended ≡ false)). absurd (omega (arith, few, late.0)))
      s.spent in
      spent_front s.whole.lines s.whole.replies (front_from_whole text left s.whole.consumed s.whole.lines turns.lines s.whole.read s.whole.ended) s.whole.run s.whole.let_through s.whole.written
      (inl (ap (λ (n : ℕ). x.counts.lines + n) full ∙ room)) counts most)
      (λ (h : IsHeldBack (onward says x.counts.lines) (Answers name) old new turns.lines (Some text) left (Some x.unsent) (Some y.unsent) ended).
      spent_front h.lines h.replies (front_from_next text left h.consumed h.lines h.line ended h.read h.next) h.run h.let_through h.written (inr h.refused) counts most)
      why

  -- the same, by other names of what was left to read, of what waited and of what waits now
  pub front_from_spent_of : (turns : Turns) (unread left before after : Option Text) (reads : ℕ) (ended : Bool)
      → TurnsAreSpent (onward says x.counts.lines) (Answers name) old new turns unread left before after reads ended
      ⊎ IsHeldBack (onward says x.counts.lines) (Answers name) old new turns.lines unread left before after ended
      → unread ≡ Some text → before ≡ Some x.unsent → after ≡ Some y.unsent → x.counts.lines + turns.lines ≡ x.most → reads < turns.reads
      → y.counts ≡ x.counts → y.most ≡ x.most → AnswersFront says name old new (lines_of text) x y Spent
  front_from_spent_of turns unread left before after reads ended why is_text waited waits room few counts most =
      let F : Option Text → Option Text → Option Text → Type 0 = λ u b a.
      TurnsAreSpent (onward says x.counts.lines) (Answers name) old new turns u left b a reads ended
      ⊎ IsHeldBack (onward says x.counts.lines) (Answers name) old new turns.lines u left b a ended in
      front_from_spent turns left reads ended room few
      (subst (λ (a : Option Text). F (Some text) (Some x.unsent) a) waits
      (subst (λ (b : Option Text). F (Some text) b after) waited (subst (λ (u : Option Text). F u before after) is_text why)))
      counts most

  pub front_from_cut_off_of : (unread before after : Option Text) → IsCutOff (onward says x.counts.lines) (Answers name) old new unread before after
      → unread ≡ Some text → before ≡ Some x.unsent → after ≡ Some y.unsent → y.counts ≡ x.counts → y.most ≡ x.most → AnswersFront says name old new (lines_of text) x y Memory
  front_from_cut_off_of unread before after cut is_text waited waits counts most =
      let F : Option Text → Option Text → Option Text → Type 0 = λ u b a. IsCutOff (onward says x.counts.lines) (Answers name) old new u b a in
      front_from_cut_off
      (subst (λ (a : Option Text). F (Some text) (Some x.unsent) a) waits
      (subst (λ (b : Option Text). F (Some text) b after) waited (subst (λ (u : Option Text). F u before after) is_text cut)))
      counts most
