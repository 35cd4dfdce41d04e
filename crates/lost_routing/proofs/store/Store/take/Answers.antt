-- The notes of the others stay.
use Rattle.std.proofs.Common.{◌<◌, length, sym, ap, subst}
use Rattle.std.specs.List.{remove, zip}
use Rattle.lost_routing.specs.Classes.{AreTold}
use Rattle.lost_routing.specs.Invariants.{IsStore}
use Rattle.lost_routing.proofs.ClassLemmas.{told_removed}
use Rattle.lost_routing.proofs.StoreLemmas.{at_held, at_taken}
use Rattle.lost_routing.proofs.store.Store.take.Goals as goal

pub leave-requires : goal.leave-requires
leave-requires c =
    at_held c.self.inside.rows.numbers c.self.inside.rows.mappings c.self.inside.tables c.self.inside.regions c.self.invariant.store
    c.args.position c.remove-number.result.0 c.remove-number.result.1
    (subst (λ l. c.args.position < length l) (sym (ap (λ k. k.mappings) c.self.view_is)) c.requires)
    c.remove-number.ensures.number c.remove-number.ensures.mapping

pub invariant_of-self : goal.invariant_of-self
invariant_of-self c =
    record {
      store =
          subst (λ l. IsStore l c.remove-number.new.self.mappings c.leave.new.tables c.leave.new.regions) (sym c.remove-number.ensures.numbers)
          (subst (λ l. IsStore (remove c.self.inside.rows.numbers c.args.position) l c.leave.new.tables c.leave.new.regions) (sym c.remove-number.ensures.mappings)
          (at_taken c.self.inside.rows.numbers c.self.inside.rows.mappings c.self.inside.tables c.self.inside.regions c.self.invariant.store
          c.args.position c.remove-number.result.0 c.remove-number.result.1
          (subst (λ l. c.args.position < length l) (sym (ap (λ k. k.mappings) c.self.view_is)) c.requires)
          c.remove-number.ensures.number c.remove-number.ensures.mapping
          c.leave.new.tables c.leave.new.regions c.leave.ensures.others c.leave.ensures.taken));
      told =
          subst (λ l. AreTold c.self.inside.strays (zip l c.remove-number.new.self.mappings)) (sym c.remove-number.ensures.numbers)
          (subst (λ l. AreTold c.self.inside.strays (zip (remove c.self.inside.rows.numbers c.args.position) l)) (sym c.remove-number.ensures.mappings)
          (told_removed c.self.inside.strays c.self.inside.rows.numbers c.self.inside.rows.mappings c.args.position c.self.invariant.store.paired
          (subst (λ l. c.args.position < length l) (sym (ap (λ k. k.mappings) c.self.view_is)) c.requires) c.self.invariant.told));
    }
