use Rattle.std.proofs.Common.{◌≡◌, length}
use Rattle.lost_lines.specs.Watched.{inner_of, has_failed}
use Rattle.lost_lines.specs.Serving.{MayEnd, TakesFront, point_of, server_most}
use Rattle.lost_lines.specs.Gate.{Through}
use Rattle.lost_lines.proofs.server.LineServer.take_lines.Given as goal

abbrev pub invariant-loop-alloc : goal.invariant-loop-alloc
invariant-loop-alloc g l = record {
  takes : TakesFront (Through (g.G.Gate.says l.gate) g.A.Answerer.step) (point_of l.initial.answerer (g.W.Write.contents (inner_of l.initial.output)) l.initial.self) (point_of l.answerer (g.W.Write.contents (inner_of l.output)) l.self) l.chunk l.rest;
  may_end : MayEnd l.self;
  most : server_most l.self ≡ server_most l.initial.self;
  flag : has_failed l.output ≡ has_failed l.initial.output;
}

abbrev pub decreases-loop-alloc : goal.decreases-loop-alloc
decreases-loop-alloc g l = length l.rest
