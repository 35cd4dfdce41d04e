use Rattle.std.proofs.Common.{◌≡◌, ◌<◌, length, refl, ap, inl, inr, ◌∙◌, rules, tests, arith}
use Rattle.std.proofs.lemmas.Result.{err_from_is_err_and}
use Rattle.lost_lines.specs.Gate.{Through}
use Rattle.lost_lines.specs.Serving.{point_of}
use Rattle.lost_lines.specs.Watched.{inner_of}
use Rattle.lost_lines.specs.declared.counts.Counts.{Counts}
use Rattle.lost_lines.specs.declared.fault.ServeError.TheVariants.{Write}
use Rattle.lost_lines.proofs.ServingLemmas.{Advances-whole}
use Rattle.lost_lines.proofs.StreamLemmas.{IsStart, Reads-none, Reads-kept, Reads-more, Reads-end, IsServed-from_end, IsCutOff-from_reads, IsCutOff-from_end, IsCutOff-from_stops, IsCutOff-from_rest, IsWholeSoFar-from_reads, IsSpent-from_reads, spent-from_rest, IsHeldBack-from_end}
use Rattle.lost_lines.proofs.OutcomeLemmas.{IsOutcome-at_end, IsOutcome-at_read, IsOutcome-at_write, IsOutcome-at_turns}
use Rattle.lost_lines.proofs.lines.run_lines.Goals as goal

pub loop-turn-init : goal.loop-turn-init
loop-turn-init g c =
    let says = g.G.Gate.says c.args.gate.now in
    let start : IsStart (point_of c.args.answerer.now (g.W.Write.contents (inner_of c.args.output.now)) c.new-server.result) = record {
      numbered = ap (λ (k : Counts). k.lines) c.new-server.ensures.counts;
      held = c.new-server.ensures.cutter;
      settled = c.new-server.ensures.gathered;
      counts = c.new-server.ensures.counts;
    } in
    record {
      start = start;
      chunk = refl;
      reads = Reads-none (Through says g.A.Answerer.step) _ _ start.held start.settled;
      may_end = λ begun. absurd (omega (arith, c.new-server.ensures.cutter.counted, begun));
      most = c.new-server.ensures.most;
      input_sound = c.requires.fresh.input_sound;
      not_ended = c.requires.fresh.not_ended;
      made = c.requires.fresh.no_read;
      output_sound = c.requires.fresh.output_sound;
      flushed = λ before. before;
    }

pub loop-turn-preserved : goal.loop-turn-preserved
loop-turn-preserved g c =
    let now = c.loop-turn.invariant in
    let none : length c.in_ok-rest.rest.now ≡ 0 = search rules in
    record {
      start = now.start;
      chunk = c.read.auto.buf ∙ now.chunk;
      reads = Reads-more (Through (g.G.Gate.says c.args.gate.now) g.A.Answerer.step) _ _ _ _ _ _ _ now.reads c.in-Ok.ensures.bytes.0 (Advances-whole (Through (g.G.Gate.says c.args.gate.now) g.A.Answerer.step) _ _ _ _ c.in_ok-rest.ensures.ok.taken none) c.in_ok-rest.ensures.settled;
      may_end = c.in_ok-rest.ensures.may_end;
      most = c.take_chunk.ensures.most ∙ now.most;
      input_sound = search rules;
      not_ended = search (rules, tests);
      made = search rules;
      output_sound = search rules;
      flushed = search rules;
    }

pub returns-in_default-clause-outcome : goal.returns-in_default-clause-outcome
returns-in_default-clause-outcome g c =
    let now = c.loop-turn.invariant in
    let says = g.G.Gate.says c.args.gate.now in let step = g.A.Answerer.step in
    IsOutcome-at_read says step _ _ _ _
    (IsCutOff-from_reads says step _ _ _ _ now.start now.reads)
    (IsWholeSoFar-from_reads says step _ _ _ _ _ now.start (Reads-kept (Through says step) _ _ _ _ _ now.reads c.in_default.ensures.bytes) (omega (arith, c.loop-turn.server.tally.within, now.most)))

pub returns-then-not-may_finish-clause-outcome : goal.returns-then-not-may_finish-clause-outcome
returns-then-not-may_finish-clause-outcome g c =
    let now = c.loop-turn.invariant in
    let says = g.G.Gate.says c.args.gate.now in let step = g.A.Answerer.step in
    let some : 0 < length c.read.new.buf = omega (arith, c.read.auto.buf, now.chunk) in
    let r = (Reads-end (Through says step) _ _ _ _ _ now.reads (rw c.if-count-eq0.true at c.in-Ok.ensures.bytes.0) (c.in-Ok.ensures.bytes.1 c.if-count-eq0.true some)).reads in
    let begun = c.may_finish.ensures.begun c.if-not-may_finish.true in
    IsOutcome-at_turns says step _ _ _ _
    (IsCutOff-from_reads says step _ _ _ _ now.start r)
    (inr (IsHeldBack-from_end says step _ _ _ _ _ _ now.start r begun (rw (← now.most) (now.may_end begun)) (c.may_finish.ensures.refused c.if-not-may_finish.true) (search (rules, tests))))

pub returns-in_err-finish-clause-outcome : goal.returns-in_err-finish-clause-outcome
returns-in_err-finish-clause-outcome g c =
    let p = err_from_is_err_and c.from_residual.result c.from_residual.ensures.1 in
    let now = c.loop-turn.invariant in
    let says = g.G.Gate.says c.args.gate.now in let step = g.A.Answerer.step in
    let some : 0 < length c.read.new.buf = omega (arith, c.read.auto.buf, now.chunk) in
    let r = Reads-end (Through says step) _ _ _ _ _ now.reads (rw c.if-count-eq0.true at c.in-Ok.ensures.bytes.0) (c.in-Ok.ensures.bytes.1 c.if-count-eq0.true some) in
    let at_write : p.0 ≡ Write = (cc (p.2, c.in_err-finish.ensures.flag.only)) in
    rw p.1 (IsOutcome-at_write says step _ _ _ _ p.0 at_write (IsCutOff-from_end says step _ _ _ _ _ now.start r (c.in_err-finish.ensures.err r.reads.moves.rest r.reads.moves.held)))

pub returns-then-count-eq0-clause-outcome : goal.returns-then-count-eq0-clause-outcome
returns-then-count-eq0-clause-outcome g c =
    let now = c.loop-turn.invariant in
    let says = g.G.Gate.says c.args.gate.now in let step = g.A.Answerer.step in
    let some : 0 < length c.read.new.buf = omega (arith, c.read.auto.buf, now.chunk) in
    let r = Reads-end (Through says step) _ _ _ _ _ now.reads (rw c.if-count-eq0.true at c.in-Ok.ensures.bytes.0) (c.in-Ok.ensures.bytes.1 c.if-count-eq0.true some) in
    IsOutcome-at_end says step _ _ _ _ _
    (rw c.counts.ensures.counts (IsServed-from_end says step _ _ _ _ _ now.start r (c.in_ok-finish.ensures.ok r.reads.moves.rest r.reads.moves.held) c.in_ok-finish.ensures.settled))
    (omega (arith, c.counts.ensures.within, c.finish.ensures.most, now.most))

pub returns-in_err-rest-clause-outcome : goal.returns-in_err-rest-clause-outcome
returns-in_err-rest-clause-outcome g c =
    let p = err_from_is_err_and c.from_residual-in_err-rest.result c.from_residual-in_err-rest.ensures.1 in
    let now = c.loop-turn.invariant in
    let says = g.G.Gate.says c.args.gate.now in let step = g.A.Answerer.step in
    let at_write : p.0 ≡ Write = (cc (p.2, c.in_err-rest.ensures.flag.only)) in
    rw p.1 (IsOutcome-at_write says step _ _ _ _ p.0 at_write (IsCutOff-from_stops says step _ _ _ _ _ _ _ now.start now.reads c.in-Ok.ensures.bytes.0 c.in_err-rest.ensures.err))

pub returns-then-not-is_empty-clause-outcome : goal.returns-then-not-is_empty-clause-outcome
returns-then-not-is_empty-clause-outcome g c =
    let now = c.loop-turn.invariant in
    let says = g.G.Gate.says c.args.gate.now in let step = g.A.Answerer.step in
    let some : 0 < length c.in_ok-rest.rest.now = search rules in
    IsOutcome-at_turns says step _ _ _ _
    (IsCutOff-from_rest says step _ _ _ _ _ _ _ _ now.start now.reads c.in-Ok.ensures.bytes.0 c.in_ok-rest.ensures.ok)
    (spent-from_rest says step _ _ _ _ _ _ _ _ _ _ _ now.start now.reads c.in-Ok.ensures.bytes.0 c.in_ok-rest.ensures.ok some c.in_ok-rest.ensures.settled (c.take_chunk.ensures.most ∙ now.most) (c.in_ok-rest.ensures.ok.stopped some))

pub returns-clause-outcome : goal.returns-clause-outcome
returns-clause-outcome g c =
    let now = c.loop-turn.invariant in
    let says = g.G.Gate.says c.args.gate.now in let step = g.A.Answerer.step in
    IsOutcome-at_turns says step _ _ _ _
    (IsCutOff-from_reads says step _ _ _ _ now.start now.reads)
    (inl (IsSpent-from_reads says step _ _ _ _ _ _ _ now.start now.reads (omega (arith, c.loop-turn.server.tally.within, now.most)) (omega (arith, now.made)) now.not_ended))
