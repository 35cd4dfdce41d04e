-- What a burst takes in, and what becomes of it.
use Rattle.std.proofs.Common.{◌≡◌, ℕ, ◌+◌, ◌-◌, Bool, true, false, true≢false, not, ◌&&◌, ◌||◌, nat_lt, if◌then◌else◌, [], ◌++◌, Option, ◌⊎◌, ⊎_elim, length, length-append, length-take-le, take, refl, sym, ap, subst, ◌∙◌, append-nil, arith, lt-ltb}
use Rattle.std.specs.Io.KnownBytes.{Appends, Consumes, IsAtEnd}
use Rattle.lost_spec.specs.Text.{Text}
use Rattle.lost_lines.specs.Cutting.{cut, ended_lines, lines_of}
use Rattle.lost_lines.specs.declared.counts.Counts.{Counts}
use Rattle.lost_lines.proofs.CuttingLemmas.{cut-piece}
use Rattle.lost_worker.specs.Lines.{Worker}
use Rattle.lost_connections.specs.declared.burst.Progress.{Progress}
use Rattle.lost_connections.specs.declared.burst.Progress.TheVariants.{More, Waits, Over}
use Rattle.lost_connections.specs.declared.client.Came.{Came}
use Rattle.lost_connections.specs.declared.client.Came.TheVariants.{Nothing, Held, Bytes, End}
use Rattle.lost_connections.specs.declared.deadlines.Shown.{Shown}
use Rattle.lost_connections.specs.declared.faults.ClientFault.{ClientFault}
use Rattle.lost_connections.specs.declared.faults.ClientFault.TheVariants.{Read, Write, Memory, Spent}
use Rattle.lost_connections.specs.Begun.{IsBegun, Splits, lines_at}
use Rattle.lost_connections.specs.Bursts.{Connection, is_held, is_answered, shown_by, progress_by, rest_progress}
use Rattle.lost_connections.specs.Client.{came_bytes, came_count, IsBrought, may_bring_more, progress_after}
use Rattle.lost_connections.specs.Replies.{Replied, AnswersAll, AnswersBehind, AnswersFront, IsAnswering}
use Rattle.lost_connections.specs.Steady.{TakesIn, StopsIn, BreaksIn, SteadyAfter, SteadyBurst, BrokenAfter, SendsRest, SendsRestAs}
use Rattle.lost_connections.proofs.BurstLemmas.{none_begun, begun_none, none_answered, front_of_same}

-- no bytes came behind a line that was begun
splits_none : (ended : Bool) (kept piece : Text) → IsBegun kept piece → (ended ≡ true → kept ≡ []) → Splits ended (piece ++ []) [] piece
splits_none false kept piece begun none = ap cut (append-nil piece) ∙ cut-piece piece begun.is_open
splits_none true kept piece begun none =
    let empty : piece ≡ [] = none_begun piece (subst (λ (k : Text). IsBegun k piece) (none refl) begun) in
    (ap lines_of (sym (append-nil piece ∙ empty)), empty)

-- whether more may come, by what a read brought
brought_more : (came : Came) (ended held : Bool) (unread : Option Text) (chunk : Text) → IsBrought came ended held unread chunk → may_bring_more came ≡ (nat_lt 0 (came_count came) || (not ended && held))
brought_more Nothing ended held unread chunk h = sym h
brought_more Held ended held unread chunk h = sym (ap (λ (e : Bool). not e && held) h.0 ∙ h.1)
brought_more (Bytes count) ended held unread chunk h = ap (λ (b : Bool). b || (not ended && held)) (sym (lt-ltb 0 count h.1))
brought_more End ended held unread chunk h = sym (ap (λ (e : Bool). not e && held) h.0 ∙ h.2)

-- what sending the rest came to
pub sends_as : (a b : Connection) (taken : ℕ) (p : Progress) (s : Shown) → SendsRest a b → p ≡ rest_progress b → s ≡ shown_by 0 taken 0 b → taken + length b.replied.unsent ≡ length a.replied.unsent
    → SendsRestAs a b (record { progress = p; shown = s })
sends_as a b taken p s r progress shown is_taken =
    let split = ap (λ (x : Text). length x) r.sent.splits in
    let taken_is : taken ≡ length r.sent.taken = omega (arith, is_taken, split, length-append r.sent.taken b.replied.unsent) in
    let shown_is : s ≡ shown_by 0 (length r.sent.taken) 0 b = shown ∙ ap (λ (k : ℕ). shown_by 0 k 0 b) taken_is in
    record {
      rest = r;
      is = ap (λ (q : Progress). record { progress = q; shown = s }) progress ∙ ap (λ (v : Shown). record { progress = rest_progress b; shown = v }) shown_is;
    }

module _ (says : ℕ → Bool → Type 0) (name : Text) where
  took_nothing : (worker : Worker) (a b : Connection) (piece : Text) → IsBegun a.kept piece → Consumes a.unread b.unread [] → b.kept ≡ a.kept → b.replied ≡ a.replied → b.written ≡ a.written → b.ended ≡ a.ended
      → (a.ended ≡ true → a.kept ≡ []) → (a.ended ≡ true → b.unread ≡ a.unread) → TakesIn says name worker worker a b piece 0
  took_nothing worker a b piece begun read kept replied written ended none unread = record {
    came = record {
      bytes = [];
      read = read;
      none_after_end = λ over. (refl, ended ∙ over, unread over);
      at_end = λ going over. absurd (true≢false (sym over ∙ ended ∙ going));
      lines = [];
      rest = piece;
      splits = subst (λ (e : Bool). Splits e (piece ++ []) [] piece) (sym ended) (splits_none a.ended a.kept piece begun none);
      begun = subst (λ (k : Text). IsBegun k piece) (sym kept) begun;
    };
    counts = refl;
    answers = subst (λ (r : Replied). AnswersAll says name worker worker [] a.replied r) (sym replied) (none_answered says name worker a.replied);
    written = written;
  }

  took_bytes : (old new : Worker) (a b : Connection) (piece bytes : Text) → Consumes a.unread b.unread bytes → b.written ≡ a.written → b.ended ≡ a.ended → a.ended ≡ false
      → AnswersBehind says name old new piece bytes a.replied b.replied b.kept → TakesIn says name old new a b piece (length bytes)
  took_bytes old new a b piece bytes read written ended going answers = record {
    came = record {
      bytes = bytes;
      read = read;
      none_after_end = λ over. absurd (true≢false (sym over ∙ going));
      at_end = λ going over. absurd (true≢false (sym over ∙ ended ∙ going));
      lines = answers.lines;
      rest = answers.rest;
      splits = subst (λ (e : Bool). Splits e (piece ++ bytes) answers.lines answers.rest) (sym (ended ∙ going)) answers.cuts;
      begun = answers.begun;
    };
    counts = refl;
    answers = answers.answers;
    written = written;
  }

  took_end : (old new : Worker) (a b : Connection) (piece : Text) → Consumes a.unread b.unread [] → IsAtEnd b.unread → b.written ≡ a.written → b.ended ≡ true → a.ended ≡ false → b.kept ≡ []
      → AnswersAll says name old new (lines_of piece) a.replied b.replied → TakesIn says name old new a b piece 0
  took_end old new a b piece read at_end written ended going kept answers = record {
    came = record {
      bytes = [];
      read = read;
      none_after_end = λ over. absurd (true≢false (sym over ∙ going));
      at_end = λ going over. at_end;
      lines = lines_of piece;
      rest = [];
      splits = subst (λ (e : Bool). Splits e (piece ++ []) (lines_of piece) []) (sym ended) (ap lines_of (sym (append-nil piece)), refl);
      begun = subst (λ (k : Text). IsBegun k []) (sym kept) begun_none;
    };
    counts = refl;
    answers = answers;
    written = written;
  }

  -- a fault that came while lines were answered
  stops : (old new : Worker) (a b : Connection) (piece : Text) (fault : ClientFault) → IsAnswering fault → StopsIn says name old new a b piece fault → BreaksIn says name old new a b piece fault
  stops old new a b piece Read cause s = absurd (⊎_elim {C = ⊥} (λ (is : Read ≡ Memory). cc) (λ (is : Read ≡ Spent). cc) cause)
  stops old new a b piece Write cause s = absurd (⊎_elim {C = ⊥} (λ (is : Write ≡ Memory). cc) (λ (is : Write ≡ Spent). cc) cause)
  stops old new a b piece Memory cause s = s
  stops old new a b piece Spent cause s = s

  -- what is known of a connection behind a burst, by what was taken in and what was sent
  pub steady_after : (old new : Worker) (a m b : Connection) (piece : Text) (count : ℕ) → TakesIn says name old new a m piece count → SendsRest m b → SteadyAfter says name old new a b piece
  steady_after old new a m b piece count t s = record {
    came = record {
      bytes = t.came.bytes;
      read = subst (λ (u : Option Text). Consumes a.unread u t.came.bytes) (sym s.unread) t.came.read;
      none_after_end = λ over. ((t.came.none_after_end over).0, s.ended ∙ (t.came.none_after_end over).1, s.unread ∙ (t.came.none_after_end over).2);
      at_end = λ going over. subst (λ (u : Option Text). IsAtEnd u) (sym s.unread) (t.came.at_end going (sym s.ended ∙ over));
      lines = t.came.lines;
      rest = t.came.rest;
      splits = subst (λ (e : Bool). Splits e (piece ++ t.came.bytes) t.came.lines t.came.rest) (sym s.ended) t.came.splits;
      begun = subst (λ (k : Text). IsBegun k t.came.rest) (sym s.kept) t.came.begun;
    };
    waiting = m.replied;
    answers = t.answers;
    sent = record { taken = s.sent.taken; appended = subst (λ (w : Option Text). Appends w b.written s.sent.taken) t.written s.sent.appended; splits = s.sent.splits };
    counts = s.counts;
    most = s.most;
  }

  pub broken_taking : (old new : Worker) (a b : Connection) (piece : Text) (fault : ClientFault) → BreaksIn says name old new a b piece fault → BrokenAfter says name old new a b piece fault
  broken_taking old new a b piece Read t = t
  broken_taking old new a b piece Write t = absurd t
  broken_taking old new a b piece Memory t = t
  broken_taking old new a b piece Spent t = t

  pub broken_sending : (old new : Worker) (a b : Connection) (piece : Text) (fault : ClientFault) → fault ≡ Write → SteadyAfter says name old new a b piece → BrokenAfter says name old new a b piece fault
  broken_sending old new a b piece fault is steady = subst (λ (f : ClientFault). BrokenAfter says name old new a b piece f) (sym is) steady

  pub broke_read : (worker : Worker) (a b : Connection) (piece : Text) (fault : ClientFault) → fault ≡ Read → Consumes a.unread b.unread [] → b.kept ≡ a.kept → b.replied ≡ a.replied → b.written ≡ a.written → b.ended ≡ a.ended
      → BreaksIn says name worker worker a b piece fault
  broke_read worker a b piece fault is read kept replied written ended =
      subst (λ (f : ClientFault). BreaksIn says name worker worker a b piece f) (sym is) (record { read = read; same = refl; kept = kept; replied = replied; written = written; ended = ended })

  -- what a burst came to, by what it took in and sent
  pub served : (old new : Worker) (a m b : Connection) (piece chunk : Text) (unread : Option Text) (came : Came) (n taken lines : ℕ) (p : Progress) (s : Shown)
      → TakesIn says name old new a m piece (came_count came) → SendsRest m b → IsBrought came a.ended (is_held a) unread chunk
      → p ≡ progress_after came b → s ≡ shown_by n taken lines b
      → n ≡ came_count came → taken + length b.replied.unsent ≡ length m.replied.unsent → lines ≡ b.replied.counts.lines - a.replied.counts.lines
      → SteadyBurst says name old new a b (record { progress = p; shown = s }) piece
  unfolding steady_after
  served old new a m b piece chunk unread came n taken lines p s t r brought progress shown is_came is_taken is_lines =
      let came_is : n ≡ length t.came.bytes = is_came ∙ sym t.counts in
      let split = ap (λ (x : Text). length x) r.sent.splits in
      let taken_is : taken ≡ length r.sent.taken = omega (arith, is_taken, split, length-append r.sent.taken b.replied.unsent) in
      let counted = t.answers.counted.lines_answered in
      let same : b.replied.counts.lines ≡ m.replied.counts.lines = ap (λ (c : Counts). c.lines) r.counts in
      let lines_is : lines ≡ length t.came.lines = omega (arith, is_lines, counted, same) in
      let more = brought_more came a.ended (is_held a) unread chunk brought ∙ ap (λ (k : ℕ). nat_lt 0 k || (not a.ended && is_held a)) (sym t.counts) in
      let progress_is : p ≡ progress_by a b (length t.came.bytes) =
      progress ∙ ap (λ (may : Bool). if b.ended && is_answered b then Over else if may && not (is_held b) then More else Waits) more in
      let shown_is : s ≡ shown_by (length t.came.bytes) (length r.sent.taken) (length t.came.lines) b =
      shown ∙ ap (λ (k : ℕ). shown_by k taken lines b) came_is ∙ ap (λ (k : ℕ). shown_by (length t.came.bytes) k lines b) taken_is
      ∙ ap (λ (k : ℕ). shown_by (length t.came.bytes) (length r.sent.taken) k b) lines_is in
      record {
        steady = steady_after old new a m b piece (came_count came) t r;
        is = ap (λ (q : Progress). record { progress = q; shown = s }) progress_is ∙ ap (λ (v : Shown). record { progress = progress_by a b (length t.came.bytes); shown = v }) shown_is;
      }

  -- ---- the same, by what a read gave

  pub took_none : (worker : Worker) (a b : Connection) (piece chunk : Text) (came : Came) → IsBegun a.kept piece → (came ≡ Nothing) ⊎ (came ≡ Held) → Consumes a.unread b.unread (came_bytes came chunk)
      → b.kept ≡ a.kept → b.replied ≡ a.replied → b.written ≡ a.written → b.ended ≡ a.ended → (a.ended ≡ true → a.kept ≡ []) → (a.ended ≡ true → b.unread ≡ a.unread) → TakesIn says name worker worker a b piece (came_count came)
  took_none worker a b piece chunk came begun is read kept replied written ended none unread =
      let empty : came_bytes came chunk ≡ [] = ⊎_elim (λ (e : came ≡ Nothing). ap (λ (x : Came). came_bytes x chunk) e) (λ (e : came ≡ Held). ap (λ (x : Came). came_bytes x chunk) e) is in
      let zero : came_count came ≡ 0 = ⊎_elim (λ (e : came ≡ Nothing). ap (λ (x : Came). came_count x) e) (λ (e : came ≡ Held). ap (λ (x : Came). came_count x) e) is in
      subst (λ (n : ℕ). TakesIn says name worker worker a b piece n) (sym zero)
      (took_nothing worker a b piece begun (subst (λ (t : Text). Consumes a.unread b.unread t) empty read) kept replied written ended none unread)

  pub took_some : (old new : Worker) (a b : Connection) (piece chunk kept : Text) (replied : Replied) (held : Bool) (unread : Option Text) (came : Came) (count : ℕ) → IsBegun a.kept piece → came ≡ Bytes count
      → Consumes a.unread b.unread (came_bytes came chunk) → IsBrought came a.ended held unread chunk → kept ≡ a.kept → replied ≡ a.replied → b.written ≡ a.written → b.ended ≡ a.ended
      → ((p : Text) → IsBegun kept p → AnswersBehind says name old new p (take count chunk) replied b.replied b.kept) → TakesIn says name old new a b piece count
  took_some old new a b piece chunk kept replied held unread came count begun is read brought same_kept same_replied written ended answers =
      let some = subst (λ (x : Came). IsBrought x a.ended held unread chunk) is brought in
      subst (λ (n : ℕ). TakesIn says name old new a b piece n) (length-take-le count chunk some.2)
      (took_bytes old new a b piece (take count chunk)
      (subst (λ (t : Text). Consumes a.unread b.unread t) (ap (λ (x : Came). came_bytes x chunk) is) read) written ended some.0
      (subst (λ (r : Replied). AnswersBehind says name old new piece (take count chunk) r b.replied b.kept) same_replied (answers piece (subst (λ (k : Text). IsBegun k piece) (sym same_kept) begun))))

  pub took_last : (old new : Worker) (a b : Connection) (piece chunk kept : Text) (replied : Replied) (held : Bool) (came : Came) → IsBegun a.kept piece → came ≡ End
      → Consumes a.unread b.unread (came_bytes came chunk) → IsBrought came a.ended held b.unread chunk → kept ≡ a.kept → replied ≡ a.replied → b.written ≡ a.written → b.ended ≡ true → b.kept ≡ []
      → ((p : Text) → IsBegun kept p → AnswersAll says name old new (lines_of p) replied b.replied) → TakesIn says name old new a b piece (came_count came)
  took_last old new a b piece chunk kept replied held came begun is read brought same_kept same_replied written ended none answers =
      let some = subst (λ (x : Came). IsBrought x a.ended held b.unread chunk) is brought in
      subst (λ (n : ℕ). TakesIn says name old new a b piece n) (ap (λ (x : Came). came_count x) (sym is))
      (took_end old new a b piece
      (subst (λ (t : Text). Consumes a.unread b.unread t) (ap (λ (x : Came). came_bytes x chunk) is) read) some.1 written ended some.0 none
      (subst (λ (r : Replied). AnswersAll says name old new (lines_of piece) r b.replied) same_replied (answers piece (subst (λ (k : Text). IsBegun k piece) (sym same_kept) begun))))

  pub broke_some : (old new : Worker) (a b : Connection) (piece chunk kept : Text) (replied : Replied) (held : Bool) (unread : Option Text) (came : Came) (count : ℕ) (fault : ClientFault) → IsBegun a.kept piece → came ≡ Bytes count
      → Consumes a.unread b.unread (came_bytes came chunk) → IsBrought came a.ended held unread chunk → kept ≡ a.kept → replied ≡ a.replied → b.written ≡ a.written → b.ended ≡ a.ended → IsAnswering fault
      → ((p : Text) → IsBegun kept p → AnswersFront says name old new (ended_lines (p ++ take count chunk)) replied b.replied fault) → BreaksIn says name old new a b piece fault
  broke_some old new a b piece chunk kept replied held unread came count fault begun is read brought same_kept same_replied written ended cause answers =
      let some = subst (λ (x : Came). IsBrought x a.ended held unread chunk) is brought in
      stops old new a b piece fault cause (record {
        bytes = take count chunk;
        read = subst (λ (t : Text). Consumes a.unread b.unread t) (ap (λ (x : Came). came_bytes x chunk) is) read;
        going = some.0;
        at_end = λ over. absurd (true≢false (sym over ∙ ended ∙ some.0));
        answers = subst (λ (e : Bool). AnswersFront says name old new (lines_at e (piece ++ take count chunk)) a.replied b.replied fault) (sym (ended ∙ some.0))
            (subst (λ (r : Replied). AnswersFront says name old new (ended_lines (piece ++ take count chunk)) r b.replied fault) same_replied (answers piece (subst (λ (k : Text). IsBegun k piece) (sym same_kept) begun)));
        written = written;
      })

  pub broke_last : (old new : Worker) (a b : Connection) (piece chunk kept : Text) (replied : Replied) (held : Bool) (came : Came) (fault : ClientFault) → IsBegun a.kept piece → came ≡ End
      → Consumes a.unread b.unread (came_bytes came chunk) → IsBrought came a.ended held b.unread chunk → kept ≡ a.kept → replied ≡ a.replied → b.written ≡ a.written → b.ended ≡ true → IsAnswering fault
      → ((p : Text) → IsBegun kept p → AnswersFront says name old new (lines_of p) replied b.replied fault) → BreaksIn says name old new a b piece fault
  broke_last old new a b piece chunk kept replied held came fault begun is read brought same_kept same_replied written ended cause answers =
      let some = subst (λ (x : Came). IsBrought x a.ended held b.unread chunk) is brought in
      stops old new a b piece fault cause (record {
        bytes = [];
        read = subst (λ (t : Text). Consumes a.unread b.unread t) (ap (λ (x : Came). came_bytes x chunk) is) read;
        going = some.0;
        at_end = λ over. some.1;
        answers = subst (λ (e : Bool). AnswersFront says name old new (lines_at e (piece ++ [])) a.replied b.replied fault) (sym ended)
            (front_of_same says name old new (lines_of piece) (lines_of (piece ++ [])) a.replied b.replied fault (ap lines_of (append-nil piece))
            (subst (λ (r : Replied). AnswersFront says name old new (lines_of piece) r b.replied fault) same_replied (answers piece (subst (λ (k : Text). IsBegun k piece) (sym same_kept) begun))));
        written = written;
      })
