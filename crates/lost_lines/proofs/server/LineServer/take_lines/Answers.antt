use Rattle.std.proofs.Common.{◌≡◌, ◌<◌, refl, sym, ◌∙◌, take, drop, length, append-nil, inl, inr, ◌+◌, rules, tests, arith}
use Rattle.std.proofs.lemmas.List.{take_rest, drop_all}
use Rattle.std.proofs.lemmas.Result.{err_from_is_err_and}
use Rattle.lost_lines.specs.Gate.{Through}
use Rattle.lost_lines.specs.Serving.{server_counts, server_most}
use Rattle.lost_lines.proofs.CuttingLemmas.{All-before_first, split_at_first}
use Rattle.lost_lines.proofs.ServingLemmas.{Serves-none, Advances-run, TakesFront-none, TakesFront-more, Fails-after_front}
use Rattle.lost_lines.proofs.server.LineServer.take_lines.Goals as goal

pub loop-alloc-init : goal.loop-alloc-init
loop-alloc-init g c = record { takes = TakesFront-none (Through (g.G.Gate.says c.args.gate.now) g.A.Answerer.step) _ _; may_end = c.requires; most = refl; flag = refl }

pub returns-in_default-clause-ok : goal.returns-in_default-clause-ok
returns-in_default-clause-ok g c =
    let step = Through (g.G.Gate.says c.args.gate.now) g.A.Answerer.step in
    let rest = c.loop-alloc.rest.now in
    let none = drop_all (length rest) rest (omega arith) in
    record {
      taken = TakesFront-more step _ _ _ _ _ _ c.loop-alloc.invariant.takes (record {
        front = rest;
        splits = rw (take_rest, none) (sym (append-nil rest));
        advances = Advances-run step _ _ _ (Serves-none step _ _ refl refl refl refl) c.take.ensures.holding;
      });
      stopped = rw (take_rest, none) (λ some. absurd (omega (arith, some)));
    }

pub returns-then-not-before_reply-clause-ok : goal.returns-then-not-before_reply-clause-ok
returns-then-not-before_reply-clause-ok g c =
    let found = c.in-Some.ensures in
    let room : (server_counts c.loop-alloc.self).lines < server_most c.loop-alloc.self = search (rules, tests) in
    record {
      taken = c.loop-alloc.invariant.takes;
      stopped = λ some. inr (record {
        room = room;
        refused = rw (c.next.ensures, c.if-not-before_reply.true) at c.before_reply.ensures;
        line = take c.in-Some.end c.loop-alloc.rest.now;
        others = drop (c.in-Some.end + 1) c.loop-alloc.rest.now;
        unbroken = All-before_first c.loop-alloc.rest.now c.in-Some.end found.0;
        splits = split_at_first c.loop-alloc.rest.now c.in-Some.end found.0.high found.1;
      });
    }

pub returns-then-is_spent-clause-ok : goal.returns-then-is_spent-clause-ok
returns-then-is_spent-clause-ok g c =
    record {
      taken = c.loop-alloc.invariant.takes;
      stopped = λ some. inl (search (rules, tests));
    }

pub returns-clause-ok : goal.returns-clause-ok
returns-clause-ok g c =
    let none : length c.loop-alloc.rest.now ≡ 0 = search rules in
    record {
      taken = c.loop-alloc.invariant.takes;
      stopped = λ some. absurd (omega (arith, some, none));
    }

pub returns-in_err-rest-clause-err : goal.returns-in_err-rest-clause-err
returns-in_err-rest-clause-err g c =
    let p = err_from_is_err_and c.from_residual.result c.from_residual.ensures.1 in
    rw p.1 (Fails-after_front (Through (g.G.Gate.says c.args.gate.now) g.A.Answerer.step) _ _ _ _ _ c.loop-alloc.invariant.takes c.in_err-rest.ensures.err)

pub loop-alloc-preserved : goal.loop-alloc-preserved
loop-alloc-preserved g c = record {
  takes = TakesFront-more (Through (g.G.Gate.says c.args.gate.now) g.A.Answerer.step) _ _ _ _ _ _ c.loop-alloc.invariant.takes c.in_ok-rest.ensures.ok;
  may_end = c.in_ok-rest.ensures.may_end;
  most = c.take_line.ensures.most ∙ c.loop-alloc.invariant.most;
  flag = search rules;
}
