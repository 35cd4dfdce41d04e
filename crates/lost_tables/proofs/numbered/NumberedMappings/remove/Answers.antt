-- What is removed from the pairs is removed from both lists.
use Rattle.std.proofs.Common.{map, remove, ap, ◌∙◌}
use Rattle.indexmap.proofs.SetLemmas.{map-remove}
use Rattle.lost_tables.proofs.numbered.NumberedMappings.remove.Goals as goal

pub returns-clause-numbers : goal.returns-clause-numbers
returns-clause-numbers c =
    ap (map (λ p. p.0)) c.remove.ensures.rest
    ∙ map-remove (λ p. p.0) c.self.inside.pairs c.args.position
    ∙ ap (λ k. remove k.numbers c.args.position) c.self.view_is

pub returns-clause-mappings : goal.returns-clause-mappings
returns-clause-mappings c =
    ap (map (λ p. p.1)) c.remove.ensures.rest
    ∙ map-remove (λ p. p.1) c.self.inside.pairs c.args.position
    ∙ ap (λ k. remove k.mappings c.args.position) c.self.view_is
