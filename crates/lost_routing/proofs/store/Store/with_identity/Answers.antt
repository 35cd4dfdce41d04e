-- The mapping at the position is the first with the identity.
use Rattle.std.proofs.Common.{◌≡◌, ◌∙◌, find, slice_get, Some, None, rules, sym, ap}
use Rattle.lost_spec.specs.Mapping.{Mapping}
use Rattle.lost_spec.specs.Book.{has_identity}
use Rattle.lost_book.proofs.PositionLemmas.{find_at_position}
use Rattle.lost_routing.proofs.store.Store.with_identity.Goals as goal

pub returns-in-Some : goal.returns-in-Some
returns-in-Some c =
    let test = λ (m : Mapping). has_identity m c.args.identity.now in
    let found : find test c.args.self.now.mappings ≡ slice_get c.args.self.now.mappings c.in-Some.position =
    find_at_position test c.args.self.now.mappings (Some c.in-Some.position) (search rules) in
    c.get.ensures ∙ ap (λ k. slice_get k.mappings c.in-Some.position) c.self.view_is ∙ sym found

pub returns-in-None : goal.returns-in-None
returns-in-None c =
    let test = λ (m : Mapping). has_identity m c.args.identity.now in
    let none : find test c.args.self.now.mappings ≡ None = find_at_position test c.args.self.now.mappings None (search rules) in
    search rules
