use Rattle.std.proofs.Common.{refl, sym, ◌∙◌}
use Rattle.lost_lines.specs.Gate.{Through}
use Rattle.lost_lines.proofs.CutterLemmas.{nil_from_empty}
use Rattle.lost_lines.proofs.ServingLemmas.{Serves-none}
use Rattle.lost_lines.proofs.server.LineServer.end_last_line.Goals as goal

pub returns-then-is_empty-clause-ok : goal.returns-then-is_empty-clause-ok
returns-then-is_empty-clause-ok g c piece held =
    rw (nil_from_empty _ piece held (sym c.is_empty.ensures ∙ c.if-is_empty.true)) (Serves-none (Through (g.G.Gate.says c.args.gate.now) g.A.Answerer.step) _ _ refl refl refl refl)
