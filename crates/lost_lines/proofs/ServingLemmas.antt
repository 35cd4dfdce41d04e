-- Lemmas on what becomes of a stream that is being served.
use Rattle.std.proofs.Common.{◌≡◌, ◌+◌, Bool, cond, List, [], ◌∷◌, ◌++◌, length, Option, refl, sym, ap, ◌∙◌, append_assoc, append-nil, length-append, zero-add, add-zero, arith}
use Rattle.std.specs.Io.KnownBytes.{Appends}
use Rattle.std.proofs.KnownBytes.{Appends-trans, Appends-nil}
use Rattle.std.proofs.lemmas.List.{nil_from_length}
use Rattle.lost_spec.specs.Text.{Text}
use Rattle.lost_lines.specs.declared.counts.Counts.{Counts}
use Rattle.lost_lines.specs.Cutting.{newline, cut, ended_lines, is_long as is_line_long}
use Rattle.lost_lines.specs.Run.{Cut, Reply, Answers, text_of}
use Rattle.lost_lines.specs.Tally.{Counted}
use Rattle.lost_lines.specs.Cutter.{IsHolding}
use Rattle.lost_lines.specs.Sending.{Sends}
use Rattle.lost_lines.specs.Stream.{AppendsFront}
use Rattle.lost_lines.specs.Serving.{Point, Adds, Serves, Breaks, Moves, Advances, Stops, Fails, TakesFront, cutter_of, gathered_of, server_counts}
use Rattle.lost_lines.proofs.CuttingLemmas.{cut-join, cut-piece, cut-line, ended_lines-append}
use Rattle.lost_lines.proofs.RunLemmas.{Run-append, Run-one, text_of-append, long_count-append, memory_count-append}

Sends-append : (a b c : Option Text) (ag bg cg : Text) (s t : Text) → Sends a ag b bg s → Sends b bg c cg t → Sends a ag c cg (s ++ t)
Sends-append a b c ag bg cg s t first second = record {
  sent = first.sent ++ second.sent;
  appended = Appends-trans a b c first.sent second.sent first.appended second.appended;
  whole = sym (append_assoc ag s t) ∙ ap (λ l. l ++ t) first.whole ∙ append_assoc first.sent bg t ∙ ap (λ l. first.sent ++ l) second.whole ∙ sym (append_assoc first.sent second.sent cg);
}

AppendsFront-append : (a b c : Option Text) (ag bg : Text) (s t : Text) → Sends a ag b bg s → AppendsFront b c (bg ++ t) → AppendsFront a c (ag ++ (s ++ t))
AppendsFront-append a b c ag bg s t first second = (
  first.sent ++ second.0,
  second.1,
  sym (append_assoc ag s t) ∙ ap (λ l. l ++ t) first.whole ∙ append_assoc first.sent bg t ∙ ap (λ l. first.sent ++ l) second.2 ∙ sym (append_assoc first.sent second.0 second.1),
  Appends-trans a b c first.sent second.0 first.appended second.3,
)

Adds-append : (a b c : Counts) (ls ms : List Text) (rs ss : List Reply) → Adds a b ls rs → Adds b c ms ss → Adds a c (ls ++ ms) (rs ++ ss)
Adds-append a b c ls ms rs ss first second = record {
  lines_answered = let p = first.lines_answered in let q = second.lines_answered in omega (arith, length-append ls ms);
  long_lines = let p = first.long_lines in let q = second.long_lines in omega (arith, long_count-append ls ms);
  memory = let p = first.memory in let q = second.memory in omega (arith, memory_count-append rs ss);
  faults = second.faults ∙ first.faults;
}

Adds-one : (a b : Counts) (line : Text) (reply : Reply) (is_long is_internal_error : Bool) → is_long ≡ is_line_long line → is_internal_error ≡ reply.is_internal_error → Counted a b is_long is_internal_error → Adds a b (line ∷ []) (reply ∷ [])
Adds-one a b line reply is_long is_internal_error long unread counted = record {
  lines_answered = counted.lines;
  long_lines = counted.long_lines ∙ ap (λ t. a.long_lines + cond t 1 0) long ∙ ap (λ n. a.long_lines + n) (sym (zero-add (cond (is_line_long line) 1 0)));
  memory = counted.memory ∙ ap (λ t. a.memory + cond t 1 0) unread ∙ ap (λ n. a.memory + n) (sym (zero-add (cond (reply.is_internal_error) 1 0)));
  faults = counted.faults;
}

module _ {State : Type 0} (step : State → Cut → Reply → State → Type 0) where
  pub Serves-append : (a b c : Point State) (ls ms : List Text) → Serves step a b ls → Serves step b c ms → Serves step a c (ls ++ ms)
  Serves-append a b c ls ms first second = record {
    replies = first.replies ++ second.replies;
    run = Run-append step a.answerer b.answerer c.answerer ls ms first.replies second.replies first.run second.run;
    sending = rw text_of-append (Sends-append a.contents b.contents c.contents (gathered_of a.server) (gathered_of b.server) (gathered_of c.server) (text_of first.replies) (text_of second.replies) first.sending second.sending);
    counted = Adds-append (server_counts a.server) (server_counts b.server) (server_counts c.server) ls ms first.replies second.replies first.counted second.counted;
  }

  pub Breaks-after : (a b c : Point State) (ls ms : List Text) → Serves step a b ls → Breaks step b c ms → Breaks step a c (ls ++ ms)
  Breaks-after a b c ls ms first second = record {
    replies = first.replies ++ second.replies;
    run = Run-append step a.answerer b.answerer c.answerer ls ms first.replies second.replies first.run second.run;
    written = rw text_of-append (AppendsFront-append a.contents b.contents c.contents (gathered_of a.server) (gathered_of b.server) (text_of first.replies) (text_of second.replies) first.sending second.written);
  }

  -- what was sent of the replies is a front of them
  pub Breaks-from_serves : (a b : Point State) (ls : List Text) → Serves step a b ls → Breaks step a b ls
  Breaks-from_serves a b ls s = record { replies = s.replies; run = s.run; written = (s.sending.sent, gathered_of b.server, s.sending.whole, s.sending.appended) }

  -- further bytes are taken
  pub Moves-append : (a b c : Point State) (piece f g : Text) → Moves step a b piece f → Advances step b c g → Moves step a c piece (f ++ g)
  Moves-append a b c piece f g m second = let n = second m.rest m.held in record {
    lines = m.lines ++ n.lines;
    rest = n.rest;
    cuts = rw (← append_assoc piece f g) (cut-join (piece ++ f) g m.lines n.lines m.rest n.rest m.cuts n.cuts);
    held = n.held;
    serves = Serves-append a b c m.lines n.lines m.serves n.serves;
  }

  -- a fault comes among further bytes
  pub Stops-after : (a b c : Point State) (piece f g : Text) → Moves step a b piece f → Fails step b c g → Stops step a c piece (f ++ g)
  Stops-after a b c piece f g m second = let n = second m.rest m.held in record {
    lines = m.lines ++ n.lines;
    others = n.others;
    begins = rw (← append_assoc piece f g) (ended_lines-append (piece ++ f) g m.lines m.rest m.cuts ∙ ap (λ l. m.lines ++ l) n.begins ∙ sym (append_assoc m.lines n.lines n.others));
    breaks = Breaks-after a b c m.lines n.lines m.serves n.breaks;
  }

  pub Advances-append : (a b c : Point State) (f g : Text) → Advances step a b f → Advances step b c g → Advances step a c (f ++ g)
  Advances-append a b c f g first second piece held = Moves-append a b c piece f g (first piece held) second

  pub Fails-after : (a b c : Point State) (f g : Text) → Advances step a b f → Fails step b c g → Fails step a c (f ++ g)
  Fails-after a b c f g first second piece held = Stops-after a b c piece f g (first piece held) second

  -- a fault among bytes is one among more bytes
  pub Fails-more : (a b : Point State) (f g : Text) → Fails step a b f → Fails step a b (f ++ g)
  Fails-more a b f g h piece held =
      let s = h piece held in
      let e = ended_lines-append (piece ++ f) g (ended_lines (piece ++ f)) (cut (piece ++ f)).1 refl in
      record {
        lines = s.lines;
        others = s.others ++ ended_lines ((cut (piece ++ f)).1 ++ g);
        begins = rw (← append_assoc piece f g) (e ∙ ap (λ l. l ++ ended_lines ((cut (piece ++ f)).1 ++ g)) s.begins ∙ append_assoc s.lines s.others (ended_lines ((cut (piece ++ f)).1 ++ g)));
        breaks = s.breaks;
      }

  -- the line is answered and counted, and the reply gathered
  pub Serves-line : (a b : Point State) (line : Text) (reply : Reply) (text : Text) → text ≡ reply.text → Answers step a.answerer line reply b.answerer → (is_long is_internal_error : Bool) → is_long ≡ is_line_long line → is_internal_error ≡ reply.is_internal_error
      → Counted (server_counts a.server) (server_counts b.server) is_long is_internal_error → Sends a.contents (gathered_of a.server) b.contents (gathered_of b.server) text → Serves step a b (line ∷ [])
  Serves-line a b line reply text same answers is_long is_internal_error long unread counted sends = record {
    replies = reply ∷ [];
    run = Run-one step a.answerer b.answerer line reply answers;
    sending = rw append-nil (rw (← same) sends);
    counted = Adds-one (server_counts a.server) (server_counts b.server) line reply is_long is_internal_error long unread counted;
  }

  pub Breaks-line : (a b : Point State) (line : Text) (reply : Reply) (text : Text) → text ≡ reply.text → Answers step a.answerer line reply b.answerer
      → AppendsFront a.contents b.contents (gathered_of a.server ++ text) → Breaks step a b (line ∷ [])
  Breaks-line a b line reply text same answers written = record {
    replies = reply ∷ [];
    run = Run-one step a.answerer b.answerer line reply answers;
    written = rw append-nil (rw (← same) written);
  }

Adds-none : (a b : Counts) → b ≡ a → Adds a b [] []
Adds-none a b same = record {
  lines_answered = ap (λ (c : Counts). c.lines) same ∙ sym (add-zero a.lines);
  long_lines = ap (λ (c : Counts). c.long_lines) same ∙ sym (add-zero a.long_lines);
  memory = ap (λ (c : Counts). c.memory) same ∙ sym (add-zero a.memory);
  faults = ap (λ (c : Counts). c.faults) same;
}

module _ {State : Type 0} (step : State → Cut → Reply → State → Type 0) where
  -- nothing was answered and nothing sent
  pub Serves-none : (a b : Point State) → b.answerer ≡ a.answerer → server_counts b.server ≡ server_counts a.server → b.contents ≡ a.contents → gathered_of b.server ≡ gathered_of a.server → Serves step a b []
  Serves-none a b answerer counts contents gathered = record {
    replies = [];
    run = answerer;
    sending = record {
      sent = [];
      appended = rw contents (Appends-nil a.contents);
      whole = append-nil (gathered_of a.server) ∙ sym gathered;
    };
    counted = Adds-none (server_counts a.server) (server_counts b.server) counts;
  }

  -- what is gathered was sent
  pub Serves-sent : (a b : Point State) → b.answerer ≡ a.answerer → server_counts b.server ≡ server_counts a.server → Appends a.contents b.contents (gathered_of a.server) → gathered_of b.server ≡ [] → Serves step a b []
  Serves-sent a b answerer counts appended empty = record {
    replies = [];
    run = answerer;
    sending = record {
      sent = gathered_of a.server;
      appended = appended;
      whole = ap (λ l. gathered_of a.server ++ l) (sym empty);
    };
    counted = Adds-none (server_counts a.server) (server_counts b.server) counts;
  }

  -- a front of what is gathered was sent
  pub Breaks-sent : (a b : Point State) → b.answerer ≡ a.answerer → AppendsFront a.contents b.contents (gathered_of a.server) → Breaks step a b []
  Breaks-sent a b answerer written = record {
    replies = [];
    run = answerer;
    written = rw append-nil written;
  }

  pub Advances-none : (a : Point State) → Advances step a a []
  Advances-none a piece held = record {
    lines = [];
    rest = piece;
    cuts = rw append-nil (cut-piece piece held.is_open);
    held = held;
    serves = Serves-none a a refl refl refl refl;
  }

  -- a run of bytes without byte 10 was taken
  pub Advances-run : (a b : Point State) (run : Text) → Serves step a b [] → ((piece : Text) → IsHolding (cutter_of a.server) piece → IsHolding (cutter_of b.server) (piece ++ run)) → Advances step a b run
  Advances-run a b run serves takes piece held =
      let after = takes piece held in
      record {
        lines = [];
        rest = piece ++ run;
        cuts = cut-piece (piece ++ run) after.is_open;
        held = after;
        serves = serves;
      }

  -- byte 10 was taken, and ends a line
  pub Advances-line : (a b : Point State) → ((piece : Text) → IsHolding (cutter_of a.server) piece → Serves step a b (piece ∷ [])) → IsHolding (cutter_of b.server) [] → Advances step a b (newline ∷ [])
  Advances-line a b answers cleared piece held = record {
    lines = piece ∷ [];
    rest = [];
    cuts = cut-line piece held.is_open;
    held = cleared;
    serves = answers piece held;
  }

  pub Fails-line : (a b : Point State) → ((piece : Text) → IsHolding (cutter_of a.server) piece → Breaks step a b (piece ∷ [])) → Fails step a b (newline ∷ [])
  Fails-line a b breaks piece held = record {
    lines = piece ∷ [];
    others = [];
    begins = ap (λ (c : List Text × Text). c.0) (cut-line piece held.is_open);
    breaks = breaks piece held;
  }

  -- what is gathered was sent, and no byte taken
  pub Advances-sent : (a b c : Point State) (f : Text) → Advances step a b f → Serves step b c [] → cutter_of c.server ≡ cutter_of b.server → Advances step a c f
  Advances-sent a b c f first serves same piece held =
      let m = first piece held in
      record {
        lines = m.lines;
        rest = m.rest;
        cuts = m.cuts;
        held = rw same m.held;
        serves = rw append-nil at (Serves-append step a b c m.lines [] m.serves serves);
      }

  pub Fails-sent : (a b c : Point State) (f : Text) → Advances step a b f → Breaks step b c [] → Fails step a c f
  Fails-sent a b c f first breaks piece held =
      let m = first piece held in
      record {
        lines = m.lines;
        others = [];
        begins = ap (λ (d : List Text × Text). d.0) m.cuts ∙ sym (append-nil m.lines);
        breaks = rw append-nil at (Breaks-after step a b c m.lines [] m.serves breaks);
      }

  pub Serves-then_sent : (a b c : Point State) (ls : List Text) → Serves step a b ls → Serves step b c [] → Serves step a c ls
  Serves-then_sent a b c ls first second = rw append-nil at (Serves-append step a b c ls [] first second)

  pub Breaks-then_sent : (a b c : Point State) (ls : List Text) → Serves step a b ls → Breaks step b c [] → Breaks step a c ls
  Breaks-then_sent a b c ls first second = rw append-nil at (Breaks-after step a b c ls [] first second)

  pub TakesFront-none : (a : Point State) (bytes : Text) → TakesFront step a a bytes bytes
  TakesFront-none a bytes = record { front = []; splits = refl; advances = Advances-none a }

  pub TakesFront-more : (a b c : Point State) (bytes rest left : Text) → TakesFront step a b bytes rest → TakesFront step b c rest left → TakesFront step a c bytes left
  TakesFront-more a b c bytes rest left first second = record {
    front = first.front ++ second.front;
    splits = first.splits ∙ ap (λ l. first.front ++ l) second.splits ∙ sym (append_assoc first.front second.front left);
    advances = Advances-append step a b c first.front second.front first.advances second.advances;
  }

  pub Fails-after_front : (a b c : Point State) (bytes rest : Text) → TakesFront step a b bytes rest → Fails step b c rest → Fails step a c bytes
  Fails-after_front a b c bytes rest first second = rw first.splits (Fails-after step a b c first.front rest first.advances second)

  -- all the bytes were taken
  pub Advances-whole : (a b : Point State) (bytes rest : Text) → TakesFront step a b bytes rest → length rest ≡ 0 → Advances step a b bytes
  Advances-whole a b bytes rest t none =
      let whole : bytes ≡ t.front = t.splits ∙ ap (λ l. t.front ++ l) (nil_from_length rest none) ∙ append-nil t.front in
      rw whole t.advances
