-- Lemmas on a whole stream: what its ends are, from what was served.
use Rattle.std.proofs.Common.{◌≡◌, ◌≢◌, ◌⊎◌, ℕ, ◌+◌, ◌<◌, ◌≤◌, Bool, true, false, All, List, [], ◌∷◌, ◌++◌, length, take, Option, None, Some, IfSome, refl, sym, ap, ◌∙◌, inl, inr, append_assoc, append-nil, take_at, min, arith}
use Rattle.std.specs.Io.KnownBytes.{Appends, Consumes, Keeps, IsAtEnd}
use Rattle.std.proofs.KnownBytes.{Consumes-nil, Consumes-trans, Consumes-kept}
use Rattle.std.proofs.lemmas.List.{take_all}
use Rattle.std.proofs.lemmas.List.Elements.{All-append}
use Rattle.lost_spec.specs.Text.{Text}
use Rattle.lost_lines.specs.declared.counts.Counts.{Counts}
use Rattle.lost_lines.specs.declared.cutter.Cutter.{Cutter}
use Rattle.lost_lines.specs.declared.turns.Turns.{Turns}
use Rattle.lost_lines.specs.Cutting.{newline, line_limit, cut, ended_lines, piece_lines, lines_of}
use Rattle.lost_lines.specs.Cutter.{IsHolding, count_of}
use Rattle.lost_lines.specs.Run.{Cut, Reply, text_of}
use Rattle.lost_lines.specs.Sending.{Sends}
use Rattle.lost_lines.specs.Stream.{AreCounts, AppendsFront, IsServed, IsCutOff, IsWholeSoFar, StandsPast, IsSpent, IsHeldBack}
use Rattle.lost_lines.specs.Gate.{Through, IsHeldAt}
use Rattle.lost_lines.specs.Serving.{Point, Adds, Serves, Breaks, Moves, Advances, Fails, TakesUpTo, cutter_of, gathered_of, server_counts, server_most}
use Rattle.lost_lines.proofs.CuttingLemmas.{lines_of-append, lines_of-cut, ended_lines-append, cut-line}
use Rattle.lost_lines.proofs.RunLemmas.{Run-plain, LetThrough-from_run}
use Rattle.lost_lines.proofs.ServingLemmas.{Serves-append, Breaks-after, Breaks-from_serves, Moves-append, Stops-after, Advances-none}

-- the counts of a point where nothing was answered yet
abbrev pub no_counts : Counts
no_counts = record { lines = 0; long_lines = 0; memory = 0; faults = 0 }

-- bytes were consumed from the start of a stream, and the lines that they end were served and the replies sent
pub record Reads {State : Type 0} (step : State → Cut → Reply → State → Type 0) (a b : Point State) (unread left : Option Text) : Type 0 where
  pub consumed : Text
  pub read : Consumes unread left consumed
  pub moves : Moves step a b [] consumed
  pub settled : gathered_of b.server ≡ []

-- the same, up to the end of the stream
pub record ReadsAll {State : Type 0} (step : State → Cut → Reply → State → Type 0) (a b : Point State) (unread left : Option Text) : Type 0 where
  pub reads : Reads step a b unread left
  pub at_end : IsAtEnd left

-- nothing was served yet
pub record IsStart {State : Type 0} (p : Point (ℕ × State)) : Type 0 where
  pub numbered : p.answerer.0 ≡ 0
  pub held : IsHolding (cutter_of p.server) []
  pub settled : gathered_of p.server ≡ []
  pub counts : server_counts p.server ≡ no_counts

AreCounts-from_adds : (old new : Counts) (lines : List Text) (replies : List Reply) → old ≡ no_counts → Adds old new lines replies → AreCounts new lines replies
AreCounts-from_adds old new lines replies none adds =
    let zero_lines = ap (λ (c : Counts). c.lines) none in
    let zero_long = ap (λ (c : Counts). c.long_lines) none in
    let zero_memory = ap (λ (c : Counts). c.memory) none in
    let added_lines = adds.lines_answered in
    let added_long = adds.long_lines in
    let added_memory = adds.memory in
    record {
      lines_answered = omega arith;
      long_lines = omega arith;
      memory = omega arith;
      faults = adds.faults ∙ ap (λ (c : Counts). c.faults) none;
    }

Appends-from_sends : (a b : Option Text) (ag bg text : Text) → ag ≡ [] → bg ≡ [] → Sends a ag b bg text → Appends a b text
Appends-from_sends a b ag bg text first second sends =
    let whole : text ≡ sends.sent = ap (λ l. l ++ text) (sym first) ∙ sends.whole ∙ ap (λ l. sends.sent ++ l) second ∙ append-nil sends.sent in
    rw whole sends.appended

-- the lines of a front of a stream begin its lines
begins-front : (unread left : Option Text) (consumed : Text) (lines : List Text) (piece : Text) → Consumes unread left consumed → cut consumed ≡ (lines, piece)
    → IfSome unread (λ bytes. (rest : List Text) × (lines_of bytes ≡ lines ++ rest))
begins-front None left consumed lines piece read cuts = tt
begins-front (Some bytes) None consumed lines piece read cuts = absurd read
begins-front (Some bytes) (Some left) consumed lines piece read cuts = (lines_of (piece ++ left), ap lines_of read ∙ lines_of-append consumed left lines piece cuts)

begins-ended : (unread left : Option Text) (consumed : Text) (lines others : List Text) → Consumes unread left consumed → ended_lines consumed ≡ lines ++ others
    → IfSome unread (λ bytes. (rest : List Text) × (lines_of bytes ≡ lines ++ rest))
begins-ended None left consumed lines others read begins = tt
begins-ended (Some bytes) None consumed lines others read begins = absurd read
begins-ended (Some bytes) (Some left) consumed lines others read begins =
    let rest = lines_of ((cut consumed).1 ++ left) in
    (others ++ rest, ap lines_of read ∙ lines_of-append consumed left (ended_lines consumed) (cut consumed).1 refl ∙ ap (λ l. l ++ rest) begins ∙ append_assoc lines others rest)

-- the lines of a stream that was read to its end
lines_of-whole : (unread left : Option Text) (consumed : Text) (lines : List Text) (piece : Text) → Consumes unread left consumed → IsAtEnd left → cut consumed ≡ (lines, piece)
    → IfSome unread (λ bytes. lines ++ piece_lines piece ≡ lines_of bytes)
lines_of-whole None left consumed lines piece read end cuts = tt
lines_of-whole (Some bytes) None consumed lines piece read end cuts = absurd read
lines_of-whole (Some bytes) (Some left) consumed lines piece read end cuts =
    sym (ap lines_of (read ∙ ap (λ l. consumed ++ l) end ∙ append-nil consumed) ∙ lines_of-cut consumed lines piece cuts)

begins-whole : (unread : Option Text) (lines : List Text) → IfSome unread (λ bytes. lines ≡ lines_of bytes) → IfSome unread (λ bytes. (rest : List Text) × (lines_of bytes ≡ lines ++ rest))
begins-whole None lines h = tt
begins-whole (Some bytes) lines h = ([], sym h ∙ sym (append-nil lines))

AppendsFront-from_start : (a b : Option Text) (gathered text : Text) → gathered ≡ [] → AppendsFront a b (gathered ++ text) → AppendsFront a b text
AppendsFront-from_start a b gathered text none written = (written.0, written.1, ap (λ l. l ++ text) (sym none) ∙ written.2, written.3)

-- the lines that a front of the last chunk ends, and what the rest of it ends
ended_lines-front : (consumed front chunk rest : Text) (lines : List Text) (piece : Text) → chunk ≡ front ++ rest → cut (consumed ++ front) ≡ (lines, piece)
    → ended_lines (consumed ++ chunk) ≡ lines ++ ended_lines (piece ++ rest)
ended_lines-front consumed front chunk rest lines piece splits cuts =
    ap (λ l. ended_lines (consumed ++ l)) splits ∙ ap ended_lines (sym (append_assoc consumed front rest)) ∙ ended_lines-append (consumed ++ front) rest lines piece cuts

StandsPast-from_rest : (most : ℕ) (lines : List Text) (consumed front chunk rest : Text) → chunk ≡ front ++ rest → 0 < length rest → length lines ≡ most → ended_lines (consumed ++ front) ≡ lines
    → StandsPast most lines (consumed ++ chunk)
StandsPast-from_rest most lines consumed front chunk [] splits some full ended = absurd (omega (arith, some))
StandsPast-from_rest most lines consumed front chunk (byte ∷ rest) splits some full ended = record {
  front = consumed ++ front;
  byte = byte;
  rest = rest;
  spent = full;
  ended = ended;
  past = ap (λ l. consumed ++ l) splits ∙ sym (append_assoc consumed front (byte ∷ rest));
}

-- a line that begins in a piece and ends in the bytes that are left
ended_lines-held : (piece line others rest : Text) → All (λ b. b ≢ newline) piece → All (λ b. b ≢ newline) line → rest ≡ (line ++ newline ∷ []) ++ others
    → ended_lines (piece ++ rest) ≡ (piece ++ line) ∷ ended_lines others
ended_lines-held piece line others rest is_open unbroken splits =
    let whole = piece ++ line in
    let text : piece ++ rest ≡ (whole ++ newline ∷ []) ++ others =
    ap (λ l. piece ++ l) splits ∙ sym (append_assoc piece (line ++ newline ∷ []) others) ∙ ap (λ l. l ++ others) (sym (append_assoc piece line (newline ∷ []))) in
    ap ended_lines text ∙ ended_lines-append (whole ++ newline ∷ []) others (whole ∷ []) [] (cut-line whole (All-append (λ b. b ≢ newline) piece line is_open unbroken))

-- a piece that has a byte is a line at the end of the input
piece_lines-begun : (c : Cutter) (piece : Text) → IsHolding c piece → 0 < count_of c → piece_lines piece ≡ piece ∷ []
piece_lines-begun c [] held begun = let counted : count_of c ≡ min 0 (line_limit + 1) = held.counted in absurd (omega (arith, counted, begun))
piece_lines-begun c (b ∷ rest) held begun = refl

module _ {State : Type 0} (step : State → Cut → Reply → State → Type 0) where
  pub Reads-none : (a : Point State) (unread : Option Text) → IsHolding (cutter_of a.server) [] → gathered_of a.server ≡ [] → Reads step a a unread unread
  Reads-none a unread held settled = record {
    consumed = [];
    read = Consumes-nil unread;
    moves = Advances-none step a [] held;
    settled = settled;
  }

  pub Reads-kept : (a b : Point State) (unread left now : Option Text) → Reads step a b unread left → Keeps left now → Reads step a b unread now
  Reads-kept a b unread left now r kept = record {
    consumed = r.consumed;
    read = Consumes-kept unread left now r.consumed r.read kept;
    moves = r.moves;
    settled = r.settled;
  }

  pub Reads-more : (a b c : Point State) (unread left now : Option Text) (chunk : Text) → Reads step a b unread left → Consumes left now chunk → Advances step b c chunk → gathered_of c.server ≡ [] → Reads step a c unread now
  Reads-more a b c unread left now chunk r read advances settled = record {
    consumed = r.consumed ++ chunk;
    read = Consumes-trans unread left now r.consumed chunk r.read read;
    moves = Moves-append step a b c [] r.consumed chunk r.moves advances;
    settled = settled;
  }

  -- the end of the stream is read
  pub Reads-end : (a b : Point State) (unread left now : Option Text) → Reads step a b unread left → Consumes left now [] → IsAtEnd now → ReadsAll step a b unread now
  Reads-end a b unread left now r read at_end = record {
    reads = record {
      consumed = r.consumed;
      read = rw append-nil at (Consumes-trans unread left now r.consumed [] r.read read);
      moves = r.moves;
      settled = r.settled;
    };
    at_end = at_end;
  }

module _ {State : Type 0} (says : ℕ → Bool → Type 0) (step : State → Cut → Reply → State → Type 0) where
  -- a fault came after lines of the stream were answered
  IsCutOff-from_breaks : (a b : Point (ℕ × State)) (unread : Option Text) (lines : List Text) → IsStart a → Breaks (Through says step) a b lines → IfSome unread (λ bytes. (rest : List Text) × (lines_of bytes ≡ lines ++ rest))
      → IsCutOff says step a.answerer.1 b.answerer.1 unread a.contents b.contents
  IsCutOff-from_breaks a b unread lines start s begins = record {
    lines = lines;
    replies = s.replies;
    run = Run-plain says step a.answerer b.answerer lines s.replies s.run;
    let_through = LetThrough-from_run says step a.answerer b.answerer lines s.replies start.numbered s.run;
    read = begins;
    written = AppendsFront-from_start a.contents b.contents (gathered_of a.server) (text_of s.replies) start.settled s.written;
  }

  pub IsCutOff-from_reads : (a b : Point (ℕ × State)) (unread left : Option Text) → IsStart a → Reads (Through says step) a b unread left → IsCutOff says step a.answerer.1 b.answerer.1 unread a.contents b.contents
  IsCutOff-from_reads a b unread left start r =
      IsCutOff-from_breaks a b unread r.moves.lines start (Breaks-from_serves (Through says step) a b r.moves.lines r.moves.serves) (begins-front unread left r.consumed r.moves.lines r.moves.rest r.read r.moves.cuts)

  pub IsWholeSoFar-from_reads : (a b : Point (ℕ × State)) (most : ℕ) (unread left : Option Text) → IsStart a → Reads (Through says step) a b unread left → (server_counts b.server).lines ≤ most
      → IsWholeSoFar says step a.answerer.1 b.answerer.1 most unread left a.contents b.contents
  IsWholeSoFar-from_reads a b most unread left start r within =
      let lines = r.moves.lines in
      let replies = r.moves.serves.replies in
      let counted = (AreCounts-from_adds (server_counts a.server) (server_counts b.server) lines replies start.counts r.moves.serves.counted).lines_answered in
      record {
        lines = lines;
        replies = replies;
        consumed = r.consumed;
        run = Run-plain says step a.answerer b.answerer lines replies r.moves.serves.run;
        let_through = LetThrough-from_run says step a.answerer b.answerer lines replies start.numbered r.moves.serves.run;
        read = r.read;
        ended = sym (ap (λ (c : List Text × Text). take most c.0) r.moves.cuts ∙ take_all most lines (omega arith));
        written = Appends-from_sends a.contents b.contents (gathered_of a.server) (gathered_of b.server) (text_of replies) start.settled r.settled r.moves.serves.sending;
      }

  -- as many reads as may be were made
  pub IsSpent-from_reads : (a b : Point (ℕ × State)) (turns : Turns) (unread left : Option Text) (reads : ℕ) (has_ended : Bool) → IsStart a → Reads (Through says step) a b unread left → (server_counts b.server).lines ≤ turns.lines → reads ≡ turns.reads → has_ended ≡ false
      → IsSpent says step a.answerer.1 b.answerer.1 turns unread left a.contents b.contents reads has_ended
  IsSpent-from_reads a b turns unread left reads has_ended start r within made not_ended = record {
    whole = IsWholeSoFar-from_reads a b turns.lines unread left start r within;
    spent = inr (made, not_ended);
  }

  pub IsServed-from_end : (a b c : Point (ℕ × State)) (unread left : Option Text) → IsStart a → (r : ReadsAll (Through says step) a b unread left) → Serves (Through says step) b c (piece_lines r.reads.moves.rest) → gathered_of c.server ≡ []
      → IsServed says step a.answerer.1 c.answerer.1 unread a.contents c.contents (server_counts c.server)
  IsServed-from_end a b c unread left start r last settled =
      let m = r.reads.moves in
      let lines = m.lines ++ piece_lines m.rest in
      let s = Serves-append (Through says step) a b c m.lines (piece_lines m.rest) m.serves last in
      record {
        lines = lines;
        replies = s.replies;
        run = Run-plain says step a.answerer c.answerer lines s.replies s.run;
        let_through = LetThrough-from_run says step a.answerer c.answerer lines s.replies start.numbered s.run;
        read = lines_of-whole unread left r.reads.consumed m.lines m.rest r.reads.read r.at_end m.cuts;
        written = Appends-from_sends a.contents c.contents (gathered_of a.server) (gathered_of c.server) (text_of s.replies) start.settled settled s.sending;
        counted = AreCounts-from_adds (server_counts a.server) (server_counts c.server) lines s.replies start.counts s.counted;
      }

  pub IsCutOff-from_end : (a b c : Point (ℕ × State)) (unread left : Option Text) → IsStart a → (r : ReadsAll (Through says step) a b unread left) → Breaks (Through says step) b c (piece_lines r.reads.moves.rest)
      → IsCutOff says step a.answerer.1 c.answerer.1 unread a.contents c.contents
  IsCutOff-from_end a b c unread left start r last =
      let m = r.reads.moves in
      let lines = m.lines ++ piece_lines m.rest in
      let begins = begins-whole unread lines (lines_of-whole unread left r.reads.consumed m.lines m.rest r.reads.read r.at_end m.cuts) in
      IsCutOff-from_breaks a c unread lines start (Breaks-after (Through says step) a b c m.lines (piece_lines m.rest) m.serves last) begins

  pub IsCutOff-from_stops : (a b c : Point (ℕ × State)) (unread left now : Option Text) (chunk : Text) → IsStart a → Reads (Through says step) a b unread left → Consumes left now chunk → Fails (Through says step) b c chunk
      → IsCutOff says step a.answerer.1 c.answerer.1 unread a.contents c.contents
  IsCutOff-from_stops a b c unread left now chunk start r read fails =
      let s = Stops-after (Through says step) a b c [] r.consumed chunk r.moves fails in
      let begins = begins-ended unread now (r.consumed ++ chunk) s.lines s.others (Consumes-trans unread left now r.consumed chunk r.read read) s.begins in
      IsCutOff-from_breaks a c unread s.lines start s.breaks begins

  -- a byte stands past the last line that may be answered
  pub IsSpent-from_rest : (a b c : Point (ℕ × State)) (turns : Turns) (unread left now : Option Text) (chunk rest : Text) (reads : ℕ) (has_ended : Bool) → IsStart a → Reads (Through says step) a b unread left → Consumes left now chunk → TakesUpTo says (Through says step) b c chunk rest
      → 0 < length rest → (server_counts c.server).lines ≡ server_most c.server → gathered_of c.server ≡ [] → server_most c.server ≡ turns.lines → IsSpent says step a.answerer.1 c.answerer.1 turns unread now a.contents c.contents reads has_ended
  IsSpent-from_rest a b c turns unread left now chunk rest reads has_ended start r read takes some last settled most =
      let front = takes.taken.front in
      let m = Moves-append (Through says step) a b c [] r.consumed front r.moves takes.taken.advances in
      let counted = (AreCounts-from_adds (server_counts a.server) (server_counts c.server) m.lines m.serves.replies start.counts m.serves.counted).lines_answered in
      let full : length m.lines ≡ turns.lines = sym counted ∙ last ∙ most in
      let begins = ended_lines-front r.consumed front chunk rest m.lines m.rest takes.taken.splits m.cuts in
      record {
        whole = record {
          lines = m.lines;
          replies = m.serves.replies;
          consumed = r.consumed ++ chunk;
          run = Run-plain says step a.answerer c.answerer m.lines m.serves.replies m.serves.run;
          let_through = LetThrough-from_run says step a.answerer c.answerer m.lines m.serves.replies start.numbered m.serves.run;
          read = Consumes-trans unread left now r.consumed chunk r.read read;
          ended = sym (ap (take turns.lines) begins ∙ take_at m.lines (ended_lines (m.rest ++ rest)) turns.lines full);
          written = Appends-from_sends a.contents c.contents (gathered_of a.server) (gathered_of c.server) (text_of m.serves.replies) start.settled settled m.serves.sending;
        };
        spent = inl (StandsPast-from_rest turns.lines m.lines r.consumed front chunk rest takes.taken.splits some full (ap (λ (d : List Text × Text). d.0) m.cuts));
      }

  pub IsCutOff-from_rest : (a b c : Point (ℕ × State)) (unread left now : Option Text) (chunk rest : Text) → IsStart a → Reads (Through says step) a b unread left → Consumes left now chunk → TakesUpTo says (Through says step) b c chunk rest
      → IsCutOff says step a.answerer.1 c.answerer.1 unread a.contents c.contents
  IsCutOff-from_rest a b c unread left now chunk rest start r read takes =
      let front = takes.taken.front in
      let m = Moves-append (Through says step) a b c [] r.consumed front r.moves takes.taken.advances in
      let ended = ended_lines-front r.consumed front chunk rest m.lines m.rest takes.taken.splits m.cuts in
      let begins = begins-ended unread now (r.consumed ++ chunk) m.lines (ended_lines (m.rest ++ rest)) (Consumes-trans unread left now r.consumed chunk r.read read) ended in
      IsCutOff-from_breaks a c unread m.lines start (Breaks-from_serves (Through says step) a c m.lines m.serves) begins

  -- the gate refused a line whose byte 10 was read
  pub IsHeldBack-from_rest : (a b c : Point (ℕ × State)) (most : ℕ) (unread left now : Option Text) (chunk rest : Text) (has_ended : Bool) → IsStart a → Reads (Through says step) a b unread left → Consumes left now chunk → TakesUpTo says (Through says step) b c chunk rest
      → IsHeldAt says (server_counts c.server).lines (server_most c.server) rest → gathered_of c.server ≡ [] → server_most c.server ≡ most → IsHeldBack says step a.answerer.1 c.answerer.1 most unread now a.contents c.contents has_ended
  IsHeldBack-from_rest a b c most unread left now chunk rest has_ended start r read takes at settled is_most =
      let front = takes.taken.front in
      let m = Moves-append (Through says step) a b c [] r.consumed front r.moves takes.taken.advances in
      let counted = (AreCounts-from_adds (server_counts a.server) (server_counts c.server) m.lines m.serves.replies start.counts m.serves.counted).lines_answered in
      let begins = ended_lines-front r.consumed front chunk rest m.lines m.rest takes.taken.splits m.cuts in
      let held = ended_lines-held m.rest at.line at.others rest m.held.is_open at.unbroken at.splits in
      record {
        lines = m.lines;
        line = m.rest ++ at.line;
        replies = m.serves.replies;
        consumed = r.consumed ++ chunk;
        run = Run-plain says step a.answerer c.answerer m.lines m.serves.replies m.serves.run;
        let_through = LetThrough-from_run says step a.answerer c.answerer m.lines m.serves.replies start.numbered m.serves.run;
        refused = rw (← counted) at.refused;
        within = rw (← counted, ← is_most) at.room;
        read = Consumes-trans unread left now r.consumed chunk r.read read;
        next = inl (ended_lines at.others, begins ∙ ap (λ l. m.lines ++ l) held);
        written = Appends-from_sends a.contents c.contents (gathered_of a.server) (gathered_of c.server) (text_of m.serves.replies) start.settled settled m.serves.sending;
      }

  -- the gate refused the last line, in which the input ended
  pub IsHeldBack-from_end : (a b : Point (ℕ × State)) (most : ℕ) (unread left : Option Text) (has_ended : Bool) → IsStart a → Reads (Through says step) a b unread left → 0 < count_of (cutter_of b.server) → (server_counts b.server).lines < most
      → says ((server_counts b.server).lines + 1) false → has_ended ≡ true → IsHeldBack says step a.answerer.1 b.answerer.1 most unread left a.contents b.contents has_ended
  IsHeldBack-from_end a b most unread left has_ended start r begun room refused ended =
      let m = r.moves in
      let counted = (AreCounts-from_adds (server_counts a.server) (server_counts b.server) m.lines m.serves.replies start.counts m.serves.counted).lines_answered in
      record {
        lines = m.lines;
        line = m.rest;
        replies = m.serves.replies;
        consumed = r.consumed;
        run = Run-plain says step a.answerer b.answerer m.lines m.serves.replies m.serves.run;
        let_through = LetThrough-from_run says step a.answerer b.answerer m.lines m.serves.replies start.numbered m.serves.run;
        refused = rw (← counted) refused;
        within = rw (← counted) room;
        read = r.read;
        next = inr (ended, lines_of-cut r.consumed m.lines m.rest m.cuts ∙ ap (λ l. m.lines ++ l) (piece_lines-begun (cutter_of b.server) m.rest m.held begun));
        written = Appends-from_sends a.contents b.contents (gathered_of a.server) (gathered_of b.server) (text_of m.serves.replies) start.settled r.settled m.serves.sending;
      }

  -- the stream stopped before bytes that are left
  pub spent-from_rest : (a b c : Point (ℕ × State)) (turns : Turns) (unread left now : Option Text) (chunk rest : Text) (reads : ℕ) (has_ended : Bool) → IsStart a → Reads (Through says step) a b unread left → Consumes left now chunk → TakesUpTo says (Through says step) b c chunk rest
      → 0 < length rest → gathered_of c.server ≡ [] → server_most c.server ≡ turns.lines
      → ((server_counts c.server).lines ≡ server_most c.server) ⊎ IsHeldAt says (server_counts c.server).lines (server_most c.server) rest
      → IsSpent says step a.answerer.1 c.answerer.1 turns unread now a.contents c.contents reads has_ended ⊎ IsHeldBack says step a.answerer.1 c.answerer.1 turns.lines unread now a.contents c.contents has_ended
  spent-from_rest a b c turns unread left now chunk rest reads has_ended start r read takes some settled most (inl last) =
      inl (IsSpent-from_rest a b c turns unread left now chunk rest reads has_ended start r read takes some last settled most)
  spent-from_rest a b c turns unread left now chunk rest reads has_ended start r read takes some settled most (inr at) =
      inr (IsHeldBack-from_rest a b c turns.lines unread left now chunk rest has_ended start r read takes at settled most)
