use Rattle.std.proofs.Common.{◌≡◌, false, length}
use Rattle.lost_lines.specs.Watched.{inner_of, has_failed, has_ended, is_unflushed, reads_of}
use Rattle.lost_lines.specs.Gate.{Through}
use Rattle.lost_lines.specs.Serving.{MayEnd, point_of, server_most}
use Rattle.lost_lines.proofs.StreamLemmas.{IsStart, Reads}
use Rattle.lost_lines.proofs.lines.run_lines.Given as goal

abbrev pub invariant-loop-turn : goal.invariant-loop-turn
invariant-loop-turn g l = record {
  start : IsStart (point_of l.initial.answerer (g.W.Write.contents (inner_of l.initial.output)) l.initial.server);
  chunk : length l.chunk ≡ 16384;
  reads : Reads (Through (g.G.Gate.says l.gate) g.A.Answerer.step) (point_of l.initial.answerer (g.W.Write.contents (inner_of l.initial.output)) l.initial.server) (point_of l.answerer (g.W.Write.contents (inner_of l.output)) l.server) (g.R.Read.remaining (inner_of l.initial.input)) (g.R.Read.remaining (inner_of l.input));
  may_end : MayEnd l.server;
  most : server_most l.server ≡ l.fn.turns.lines;
  input_sound : has_failed l.input ≡ false;
  not_ended : has_ended l.input ≡ false;
  made : reads_of l.input ≡ l._turn;
  output_sound : has_failed l.output ≡ false;
  flushed : is_unflushed l.initial.output ≡ false → is_unflushed l.output ≡ false;
}
