-- Bursts of a connection are one stream.
use Rattle.std.proofs.Common.{◌≡◌, ℕ, ◌+◌, ◌-◌, ◌^◌, ◌<◌, ◌≤◌, min, Bool, true, false, true≢false, Option, List, [], ◌∷◌, ◌++◌, length, length-append, refl, sym, ap, subst, ⊎_elim, ◌∙◌, append_assoc, append-nil, arith}
use Rattle.std.proofs.KnownBytes.{Appends-trans, Consumes-trans}
use Rattle.std.proofs.lemmas.Bool.{cases_lt}
use Rattle.std.specs.Io.KnownBytes.{IsAtEnd}
use Rattle.lost_spec.specs.Text.{Text}
use Rattle.lost_lines.specs.Cutting.{cut, lines_of}
use Rattle.lost_lines.specs.Gate.{LetThrough}
use Rattle.lost_lines.specs.Run.{Reply, Run, text_of}
use Rattle.lost_lines.specs.Serving.{Adds}
use Rattle.lost_lines.specs.declared.counts.Counts.{Counts}
use Rattle.lost_lines.proofs.CuttingLemmas.{cut-join, lines_of-append}
use Rattle.lost_lines.proofs.RunLemmas.{Run-append, text_of-append, long_count-append, memory_count-append}
use Rattle.lost_worker.specs.Lines.{Worker, Answers, HasSeenMore}
use Rattle.lost_worker.proofs.ServingLemmas.{HasSeenMore-none, HasSeenMore-trans}
use Rattle.lost_connections.specs.Begun.{Splits}
use Rattle.lost_connections.specs.Replies.{onward}
use Rattle.lost_connections.specs.Bursts.{Connection}
use Rattle.lost_connections.specs.Steady.{Comes}
use Rattle.lost_connections.specs.Laws.{AnswersLater, BurstIsStream, BurstsAreStream}

-- a run goes on by a run from a worker that has seen more
pub record GoesOn (name : Text) (one new : Worker) (lines : List Text) (replies : List Reply) : Type 0 where
  pub last : Worker
  pub run : Run (AnswersLater name) one lines replies last
  pub grown : HasSeenMore last.reader new.reader

goes_on : (name : Text) (one later new : Worker) (lines : List Text) (replies : List Reply) → HasSeenMore one.reader later.reader → Run (Answers name) later lines replies new → GoesOn name one new lines replies
goes_on name one later new [] [] seen run = record { last = one; run = refl; grown = subst (λ (w : Worker). HasSeenMore one.reader w.reader) (sym run) seen }
goes_on name one later new [] (reply ∷ replies) seen run = absurd run
goes_on name one later new (line ∷ lines) [] seen run = absurd run
goes_on name one later new (line ∷ lines) (reply ∷ replies) seen (cut, next, is_cut, answers, rest) =
    let on = goes_on name next next new lines replies (HasSeenMore-none next.reader next.reader refl) rest in
    record { last = on.last; run = (cut, next, is_cut, (later, seen, answers), on.run); grown = on.grown }

pub burst_is_stream : (says : ℕ → Bool → Type 0) → BurstIsStream says
burst_is_stream says name old new a b steady piece begun =
    let s = steady piece begun in
    let on = goes_on name old old new s.came.lines s.answers.replies (HasSeenMore-none old.reader old.reader refl) s.answers.run in
    record {
      came = s.came;
      replies = s.answers.replies;
      last = on.last;
      run = on.run;
      grown = on.grown;
      let_through = s.answers.let_through;
      counted = subst (λ (c : Counts). Adds a.replied.counts c s.came.lines s.answers.replies) (sym s.counts) s.answers.counted;
      taken = s.sent.taken;
      appended = s.sent.appended;
      in_order = sym s.answers.behind ∙ s.sent.splits;
    }

-- the bytes of two bursts are cut as the bytes of both
splits_joined : (one two : Bool) (piece bytes more : Text) (ls ms : List Text) (p q : Text) → (one ≡ true → (more ≡ []) × (two ≡ true))
    → Splits one (piece ++ bytes) ls p → Splits two (p ++ more) ms q → Splits two (piece ++ (bytes ++ more)) (ls ++ ms) q
splits_joined false false piece bytes more ls ms p q end first second =
    subst (λ (t : Text). cut t ≡ (ls ++ ms, q)) (append_assoc piece bytes more) (cut-join (piece ++ bytes) more ls ms p q first second)
splits_joined false true piece bytes more ls ms p q end first second = (
  ap (λ (l : List Text). ls ++ l) second.0 ∙ sym (lines_of-append (piece ++ bytes) more ls p first) ∙ ap lines_of (append_assoc piece bytes more),
  second.1,
)
splits_joined true false piece bytes more ls ms p q end first second = absurd (true≢false (sym (end refl).1))
splits_joined true true piece bytes more ls ms p q end first second =
    let none = (end refl).0 in
    let late : ms ≡ [] = second.0 ∙ ap lines_of (ap (λ (t : Text). t ++ more) first.1 ∙ none) in (
      ap (λ (l : List Text). ls ++ l) late ∙ append-nil ls ∙ first.0 ∙ ap (λ (t : Text). lines_of (piece ++ t)) (sym (ap (λ (t : Text). bytes ++ t) none ∙ append-nil bytes)),
      second.1,
    )

-- the end was met in the first or in the second
end_joined : (met : Bool) (a b c : Connection) (bytes : Text) → b.ended ≡ met → (a.ended ≡ false → b.ended ≡ true → IsAtEnd b.unread) → (b.ended ≡ false → c.ended ≡ true → IsAtEnd c.unread)
    → (b.ended ≡ true → (bytes ≡ []) × (c.ended ≡ true) × (c.unread ≡ b.unread)) → a.ended ≡ false → c.ended ≡ true → IsAtEnd c.unread
end_joined false a b c bytes is first second stays going over = second is over
end_joined true a b c bytes is first second stays going over = subst (λ (u : Option Text). IsAtEnd u) (sym (stays is).2) (first going is)

comes_joined : (a b c : Connection) (piece : Text) (first : Comes a b piece) (second : Comes b c first.rest) → Comes a c piece
comes_joined a b c piece first second = record {
  bytes = first.bytes ++ second.bytes;
  read = Consumes-trans a.unread b.unread c.unread first.bytes second.bytes first.read second.read;
  none_after_end = λ ended.
      let one = first.none_after_end ended in
      let two = second.none_after_end one.1 in
      (ap (λ (x : Text). x ++ second.bytes) one.0 ∙ two.0, two.1, two.2 ∙ one.2);
  at_end = end_joined b.ended a b c second.bytes refl first.at_end second.at_end second.none_after_end;
  lines = first.lines ++ second.lines;
  rest = second.rest;
  splits = splits_joined b.ended c.ended piece first.bytes second.bytes first.lines second.lines first.rest second.rest (λ met. ((second.none_after_end met).0, (second.none_after_end met).1)) first.splits second.splits;
  begun = second.begun;
}

adds_joined : (a b c : Counts) (ls ms : List Text) (rs ss : List Reply) → Adds a b ls rs → Adds b c ms ss → Adds a c (ls ++ ms) (rs ++ ss)
adds_joined a b c ls ms rs ss first second = record {
  lines_answered = let p = first.lines_answered in let q = second.lines_answered in omega (arith, length-append ls ms);
  long_lines = let p = first.long_lines in let q = second.long_lines in omega (arith, long_count-append ls ms);
  memory = let p = first.memory in let q = second.memory in omega (arith, memory_count-append rs ss);
  faults = second.faults ∙ first.faults;
}

-- lines were let through, and then others behind them
through_joined : (says : ℕ → Bool → Type 0) (before one more : ℕ) → LetThrough (onward says before) one → LetThrough (onward says (before + one)) more → LetThrough (onward says before) (one + more)
through_joined says before one more first second line some within = ⊎_elim
    (λ (late : one < line).
    let same : min (before + one + (line - one)) (2 ^ 64 - 1) ≡ min (before + line) (2 ^ 64 - 1) = ap (λ (n : ℕ). min n (2 ^ 64 - 1)) (omega (arith, late)) in
    subst (λ (n : ℕ). says n true) same (second (line - one) (omega (arith, late)) (omega (arith, late, within))))
    (λ (early : line ≤ one). first line some early)
    (cases_lt one line)

pub bursts_are_stream : (says : ℕ → Bool → Type 0) → BurstsAreStream says
unfolding comes_joined
bursts_are_stream says name old one later new a b c stream seen steady piece begun =
    let s = stream piece begun in
    let t = steady s.came.rest s.came.begun in
    let on = goes_on name s.last later new t.came.lines t.answers.replies (HasSeenMore-trans s.last.reader one.reader later.reader s.grown seen) t.answers.run in
    let behind = subst (λ (n : ℕ). LetThrough (onward says n) (length t.came.lines)) s.counted.lines_answered t.answers.let_through in
    record {
      came = comes_joined a b c piece s.came t.came;
      replies = s.replies ++ t.answers.replies;
      last = on.last;
      run = Run-append (AnswersLater name) old s.last on.last s.came.lines t.came.lines s.replies t.answers.replies s.run on.run;
      grown = on.grown;
      let_through = subst (λ (n : ℕ). LetThrough (onward says a.replied.counts.lines) n) (sym (length-append s.came.lines t.came.lines))
          (through_joined says a.replied.counts.lines (length s.came.lines) (length t.came.lines) s.let_through behind);
      counted = subst (λ (x : Counts). Adds a.replied.counts x (s.came.lines ++ t.came.lines) (s.replies ++ t.answers.replies)) (sym t.counts)
          (adds_joined a.replied.counts b.replied.counts t.waiting.counts s.came.lines t.came.lines s.replies t.answers.replies s.counted t.answers.counted);
      taken = s.taken ++ t.sent.taken;
      appended = Appends-trans a.written b.written c.written s.taken t.sent.taken s.appended t.sent.appended;
      in_order =
          ap (λ (x : Text). a.replied.unsent ++ x) (text_of-append s.replies t.answers.replies)
          ∙ sym (append_assoc a.replied.unsent (text_of s.replies) (text_of t.answers.replies))
          ∙ ap (λ (x : Text). x ++ text_of t.answers.replies) s.in_order
          ∙ append_assoc s.taken b.replied.unsent (text_of t.answers.replies)
          ∙ ap (λ (x : Text). s.taken ++ x) (sym t.answers.behind ∙ t.sent.splits)
          ∙ sym (append_assoc s.taken t.sent.taken c.replied.unsent);
    }
