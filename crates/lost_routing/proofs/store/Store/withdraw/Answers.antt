use Rattle.std.proofs.Common.{refl, sym, ap, subst, ◌∙◌}
use Rattle.lost_book.proofs.PositionLemmas.{without-at, without-none}
use Rattle.lost_routing.specs.Invariants.{IsNew}
use Rattle.lost_routing.proofs.ApplyLemmas.{new_removed}
use Rattle.lost_routing.proofs.store.Store.withdraw.Goals as goal

pub returns-in-Some-clause-taken : goal.returns-in-Some-clause-taken
returns-in-Some-clause-taken c =
    ap (λ k. k.mappings) c.take.ensures
    ∙ without-at c.args.identity.now c.args.self.now.mappings c.args.self.now.mappings c.in-Some.position refl c.in-Some.ensures

pub returns-in-Some-clause-below : goal.returns-in-Some-clause-below
returns-in-Some-clause-below c = λ number new.
    subst (IsNew number) (sym (ap (λ k. k.numbers) c.take.ensures)) (new_removed number c.in-Some.position c.args.self.now.numbers new)

pub returns-in_default-clause-taken : goal.returns-in_default-clause-taken
returns-in_default-clause-taken c = without-none c.args.identity.now c.args.self.now.mappings c.args.self.now.mappings refl c.in_default.ensures
