-- What the test keeps of the near numbers is the list of holders.
use Rattle.std.proofs.Common.{Contains, ap, subst, rules, ◌∙◌}
use Rattle.std.proofs.lemmas.Fn.{filter_same}
use Rattle.std.proofs.lemmas.List.Kept.{IsStrictlyIncreasing-filter}
use Rattle.lost_index.specs.Entries.{holders, is_holder}
use Rattle.lost_index.proofs.HoldingLemmas.{holding_is}
use Rattle.lost_index.proofs.index.Index.holding.Goals as goal

pub returns-clause-holding : goal.returns-clause-holding
returns-clause-holding g c =
    let location = c.args.location.now in
    let kept = filter_same _ (is_holder g.P.Profile.holds location c.self.inside.held) _ (λ x b f' k. search rules) _ _ c.retain.ensures.filtered in
    holding_is g.P.Profile.holds location c.self.inside.held c.numbers_rise.ensures c.in_ok-found.found.items c.retain.new.self.items
    c.in_ok-found.ensures.rising
    (λ n stands. c.in_ok-found.ensures.holders n (subst (λ l. Contains (holders g.P.Profile.holds location l) n) c.self.view_is stands)) kept
    ∙ ap (holders g.P.Profile.holds location) c.self.view_is

pub returns-clause-rising : goal.returns-clause-rising
returns-clause-rising g c =
    let kept = filter_same _ (is_holder g.P.Profile.holds c.args.location.now c.self.inside.held) _ (λ x b f' k. search rules) _ _ c.retain.ensures.filtered in
    rw kept (IsStrictlyIncreasing-filter (is_holder g.P.Profile.holds c.args.location.now c.self.inside.held) c.in_ok-found.found.items c.in_ok-found.ensures.rising)
