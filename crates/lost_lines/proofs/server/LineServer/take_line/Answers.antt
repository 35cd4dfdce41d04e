use Rattle.std.proofs.Common.{refl, ◌++◌, take, [], ◌∷◌}
use Rattle.std.proofs.lemmas.List.{take_rest}
use Rattle.std.proofs.lemmas.Result.{err_from_is_err_and}
use Rattle.lost_lines.specs.Cutting.{newline}
use Rattle.lost_lines.specs.Gate.{Through}
use Rattle.lost_lines.proofs.CuttingLemmas.{All-before_first, split_at_first}
use Rattle.lost_lines.proofs.ServingLemmas.{Serves-none, Advances-run, Advances-append, Advances-line, Fails-line, Fails-after, Fails-more}
use Rattle.lost_lines.proofs.server.LineServer.take_line.Goals as goal

pub take-requires : goal.take-requires
take-requires g c = All-before_first c.args.bytes.now c.args.end c.requires.first.0

pub returns-in_err-end_line-clause-err : goal.returns-in_err-end_line-clause-err
returns-in_err-end_line-clause-err g c =
    let p = err_from_is_err_and c.from_residual.result c.from_residual.ensures.1 in
    let high = c.requires.first.0.high in
    let splits = split_at_first c.args.bytes.now c.args.end high c.requires.first.1 in
    let step = Through (g.G.Gate.says c.args.gate.now) g.A.Answerer.step in
    let taken = Advances-run step _ _ _ (Serves-none step _ _ refl refl refl refl) c.take.ensures.holding in
    rw p.1 (rw splits (Fails-more step _ _ _ _ (Fails-after step _ _ _ _ _ taken (Fails-line step _ _ c.in_err-end_line.ensures.err))))

pub returns-clause-ok : goal.returns-clause-ok
returns-clause-ok g c =
    let high = c.requires.first.0.high in
    let step = Through (g.G.Gate.says c.args.gate.now) g.A.Answerer.step in
    let taken = Advances-run step _ _ _ (Serves-none step _ _ refl refl refl refl) c.take.ensures.holding in
    record {
      front = take c.args.end c.args.bytes.now ++ newline ∷ [];
      splits = rw take_rest (split_at_first c.args.bytes.now c.args.end high c.requires.first.1);
      advances = Advances-append step _ _ _ _ _ taken (Advances-line step _ _ c.in_ok-end_line.ensures.ok c.end_line.ensures.cutter);
    }
