-- The number stays, and the mapping is replaced in its list.
use Rattle.std.proofs.Common.{map, slice_set, ap, ◌∙◌}
use Rattle.std.proofs.Math.Seq.{map-set_same}
use Rattle.std.proofs.lemmas.List.{map-set}
use Rattle.lost_tables.proofs.NumberedLemmas.{number_there}
use Rattle.lost_tables.proofs.numbered.NumberedMappings.set.Goals as goal

pub returns-clause-numbers : goal.returns-clause-numbers
returns-clause-numbers c =
    ap (map (λ p. p.0)) c.set.ensures
    ∙ map-set_same (λ p. p.0) c.self.inside.pairs c.args.position (c.number_at-number.result, c.args.mapping) (c.number_at-number.result, c.args.mapping)
    (number_there c.self.inside.pairs c.args.position c.number_at-number.result c.args.mapping c.args.self.now c.self.view_is c.requires
    c.number_at-number.ensures)
    ∙ ap (λ k. k.numbers) c.self.view_is

pub returns-clause-mappings : goal.returns-clause-mappings
returns-clause-mappings c =
    ap (map (λ p. p.1)) c.set.ensures
    ∙ map-set (λ p. p.1) c.self.inside.pairs c.args.position (c.number_at-number.result, c.args.mapping)
    ∙ ap (λ k. slice_set k.mappings c.args.position c.args.mapping) c.self.view_is
