-- The notes of the others stay, and the mapping at the position is noted and in the indexes.
use Rattle.std.proofs.Common.{◌<◌, length, sym, ap, subst}
use Rattle.std.specs.List.{zip}
use Rattle.lost_routing.specs.Classes.{AreTold}
use Rattle.lost_routing.specs.Invariants.{IsStore}
use Rattle.lost_routing.proofs.ClassLemmas.{told_changed}
use Rattle.lost_routing.proofs.StoreLemmas.{at_has, at_changed, at_unchanged}
use Rattle.lost_routing.proofs.store.Store.change.Goals as goal

pub exchange-requires : goal.exchange-requires
exchange-requires c =
    at_has c.self.inside.rows.numbers c.self.inside.rows.mappings c.self.inside.tables c.self.inside.regions c.self.invariant.store
    c.args.position c.number_at-number.result c.at.result.now
    (subst (λ l. c.args.position < length l) (sym (ap (λ k. k.mappings) c.self.view_is)) c.requires) c.number_at-number.ensures c.at.ensures

pub invariant_of-self : goal.invariant_of-self
invariant_of-self c =
    record {
      store =
          at_unchanged c.self.inside.rows.numbers c.self.inside.rows.mappings c.self.inside.tables c.self.inside.regions c.self.invariant.store
          c.args.position c.number_at-number.result c.at.result.now
          (subst (λ l. c.args.position < length l) (sym (ap (λ k. k.mappings) c.self.view_is)) c.requires) c.number_at-number.ensures c.at.ensures
          c.exchange.new.tables c.exchange.new.regions c.in_err-exchange.ensures.remaining c.exchange.ensures.others c.in_err-exchange.ensures.refused;
      told = c.self.invariant.told;
    }

pub invariant_of-self-2 : goal.invariant_of-self-2
invariant_of-self-2 c =
    record {
      store =
          subst (λ l. IsStore l c.set.new.self.mappings c.exchange.new.tables c.exchange.new.regions) (sym c.set.ensures.numbers)
          (subst (λ l. IsStore c.self.inside.rows.numbers l c.exchange.new.tables c.exchange.new.regions) (sym c.set.ensures.mappings)
          (at_changed c.self.inside.rows.numbers c.self.inside.rows.mappings c.self.inside.tables c.self.inside.regions c.self.invariant.store
          c.args.position c.number_at-number.result c.at.result.now
          (subst (λ l. c.args.position < length l) (sym (ap (λ k. k.mappings) c.self.view_is)) c.requires) c.number_at-number.ensures c.at.ensures
          c.args.mapping c.exchange.new.tables c.exchange.new.regions c.in_ok-exchange.ensures.listed c.exchange.ensures.others
          c.in_ok-exchange.ensures.changed));
      told =
          subst (λ l. AreTold c.mark_untold.new.self (zip l c.set.new.self.mappings)) (sym c.set.ensures.numbers)
          (subst (λ l. AreTold c.mark_untold.new.self (zip c.self.inside.rows.numbers l)) (sym c.set.ensures.mappings)
          (told_changed c.self.inside.strays c.mark_untold.new.self c.self.inside.rows.numbers c.self.inside.rows.mappings c.args.position c.number_at-number.result
          c.args.mapping c.self.invariant.store.paired
          (subst (λ l. c.args.position < length l) (sym (ap (λ k. k.mappings) c.self.view_is)) c.requires) c.number_at-number.ensures
          c.mark_untold.ensures.keeps c.mark_untold.ensures.told c.self.invariant.told));
    }
