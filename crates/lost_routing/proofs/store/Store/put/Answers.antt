-- The notes of the others stay, and the new mapping is noted and in the indexes; where memory is short it is taken away again.
use Rattle.std.proofs.Common.{◌≡◌, [], ◌∷◌, ◌++◌, slice_index_or, rules, sym, ap, subst, ◌∙◌}
use Rattle.std.specs.List.{zip}
use Rattle.lost_regions.specs.Regions.{with_mapping}
use Rattle.lost_tables.specs.Lookup.{IsFullyListed}
use Rattle.lost_routing.specs.Classes.{AreTold}
use Rattle.lost_routing.specs.Invariants.{IsStore, IsNew}
use Rattle.lost_routing.proofs.ClassLemmas.{told_put}
use Rattle.lost_routing.proofs.StoreLemmas.{put_above, put_kept, put_refused, last_there, taken_back}
use Rattle.lost_routing.proofs.store.Store.put.Goals as goal

pub enter-requires : goal.enter-requires
enter-requires c =
    put_above c.self.inside.rows.numbers c.self.inside.rows.mappings c.self.inside.tables c.self.inside.tables c.self.inside.regions
    c.self.inside.regions c.args.number c.args.mapping c.self.invariant.store
    (subst (IsNew c.args.number) (sym (ap (λ k. k.numbers) c.self.view_is)) c.requires)

pub invariant_of-self-then-is_err : goal.invariant_of-self-then-is_err
invariant_of-self-then-is_err c =
    let same : c.enter.new.regions ≡ c.self.inside.regions = search rules in
    let numbers = taken_back c.self.inside.rows.numbers _ _ c.args.number c.len-position.result c.in_ok-push.ensures.numbers c.remove.ensures.numbers c.len-position.ensures.numbers in
    let mappings = taken_back c.self.inside.rows.mappings _ _ c.args.mapping c.len-position.result c.in_ok-push.ensures.mappings c.remove.ensures.mappings c.len-position.ensures.mappings in
    record {
      store =
          subst (λ l. IsStore l c.remove.new.self.mappings c.enter.new.tables c.enter.new.regions) (sym numbers)
          (subst (λ l. IsStore c.self.inside.rows.numbers l c.enter.new.tables c.enter.new.regions) (sym mappings)
          (put_refused c.self.inside.rows.numbers c.self.inside.rows.mappings c.self.inside.tables c.enter.new.tables c.self.inside.regions
          c.enter.new.regions c.args.number c.args.mapping c.self.invariant.store
          (subst (IsNew c.args.number) (sym (ap (λ k. k.numbers) c.self.view_is)) c.requires) c.enter.ensures.others same));
      told =
          subst (λ l. AreTold c.self.inside.strays (zip l c.remove.new.self.mappings)) (sym numbers)
          (subst (λ l. AreTold c.self.inside.strays (zip c.self.inside.rows.numbers l)) (sym mappings) c.self.invariant.told);
    }

pub returns-then-is_err-clause-refused : goal.returns-then-is_err-clause-refused
returns-then-is_err-clause-refused c =
    let numbers = taken_back c.self.inside.rows.numbers _ _ c.args.number c.len-position.result c.in_ok-push.ensures.numbers c.remove.ensures.numbers c.len-position.ensures.numbers in
    let mappings = taken_back c.self.inside.rows.mappings _ _ c.args.mapping c.len-position.result c.in_ok-push.ensures.mappings c.remove.ensures.mappings c.len-position.ensures.mappings in
    rw (numbers, mappings) c.self.view_is

pub invariant_of-self-2 : goal.invariant_of-self-2
invariant_of-self-2 c =
    let there : c.at-mapping.result.now ≡ c.args.mapping =
    c.at-mapping.ensures ∙ ap (λ l. slice_index_or l c.len-position.result c.at-mapping.result.now) c.in_ok-push.ensures.mappings
    ∙ ap (λ i. slice_index_or (c.self.inside.rows.mappings ++ c.args.mapping ∷ []) i c.at-mapping.result.now) c.len-position.ensures.mappings
    ∙ last_there c.self.inside.rows.mappings c.args.mapping c.at-mapping.result.now in
    let noted : IsFullyListed c.enter.new.tables c.at-mapping.result.now c.args.number = search rules in
    let put : c.enter.new.regions ≡ with_mapping c.args.number c.at-mapping.result.now c.self.inside.regions = search rules in
    let there_too : c.push.new.self.mappings ≡ c.self.inside.rows.mappings ++ c.at-mapping.result.now ∷ [] =
    c.in_ok-push.ensures.mappings ∙ ap (λ m. c.self.inside.rows.mappings ++ m ∷ []) (sym there) in
    record {
      store =
          subst (λ l. IsStore l c.push.new.self.mappings c.enter.new.tables c.enter.new.regions) (sym c.in_ok-push.ensures.numbers)
          (subst (λ l. IsStore (c.self.inside.rows.numbers ++ c.args.number ∷ []) l c.enter.new.tables c.enter.new.regions)
          (sym there_too)
          (put_kept c.self.inside.rows.numbers c.self.inside.rows.mappings c.self.inside.tables c.enter.new.tables c.self.inside.regions
          c.enter.new.regions c.args.number c.at-mapping.result.now c.self.invariant.store
          (subst (IsNew c.args.number) (sym (ap (λ k. k.numbers) c.self.view_is)) c.requires)
          noted c.enter.ensures.others put));
      told =
          subst (λ l. AreTold c.mark_untold.new.self (zip l c.push.new.self.mappings)) (sym c.in_ok-push.ensures.numbers)
          (subst (λ l. AreTold c.mark_untold.new.self (zip (c.self.inside.rows.numbers ++ c.args.number ∷ []) l)) (sym there_too)
          (told_put c.self.inside.strays c.mark_untold.new.self c.self.inside.rows.numbers c.self.inside.rows.mappings c.args.number c.at-mapping.result.now
          c.self.invariant.store.paired c.mark_untold.ensures.keeps c.mark_untold.ensures.told c.self.invariant.told));
    }
