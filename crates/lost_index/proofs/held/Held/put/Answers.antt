-- The row is put behind all.
use Rattle.std.proofs.Common.{◌++◌, ◌∷◌, [], ap, ◌∙◌}
use Rattle.std.proofs.lemmas.Result.{on_ok_weaker}
use Rattle.lost_index.proofs.held.Held.put.Goals as goal

pub returns-clause-put : goal.returns-clause-put
returns-clause-put g c =
    on_ok_weaker c.put.result (λ put. put ∙ ap (λ held. held ++ (c.args.number, c.args.entry) ∷ []) c.self.view_is) c.put.ensures.put
