-- A row more was walked, whether a live mapping of its service was found or not.
use Rattle.std.proofs.Common.{◌≡◌, ◌∙◌, ◌<◌, ◌≤◌, List, ℕ, length, filter, ap, rules, arith}
use Rattle.std.specs.Option.{option_copied}
use Rattle.lost_spec.specs.Text.{Text}
use Rattle.lost_spec.specs.Mapping.{Mapping, is_live}
use Rattle.lost_spec.specs.Services.{children_in}
use Rattle.lost_tables.specs.Lookup.{service_rows}
use Rattle.lost_routing.proofs.QuestionLemmas.{seen_at}
use Rattle.lost_routing.proofs.ServiceLemmas.{chosen_within, no_more, one_more, all_walked}
use Rattle.lost_routing.proofs.store.Store.services_below.Goals as goal
use Rattle.lost_routing.proofs.store.Store.services_below.Goals.{in-Some+in_ok-add, in_default}

pub at-requires : goal.at-requires
at-requires c =
    let row : Text × List ℕ = (c.service_at.result.0.now, c.service_at.result.1.now) in
    let held = c.self.inside in
    let within : c.in-Some.position < length held.rows.mappings =
    chosen_within held.rows.numbers held.rows.mappings held.tables held.regions c.self.invariant.store (option_copied c.args.above) c.args.moment.now
    row c.in-Some.position
    c.in-Some.ensures in
    search rules

pub loop-row-preserved : goal.loop-row-preserved
loop-row-preserved c =
    let row : Text × List ℕ = (c.service_at.result.0.now, c.service_at.result.1.now) in
    let held = c.self.inside in
    elim c.match-position.branch [
      | in-Some+in_ok-add w ↦ rw w.children-is
          (one_more held.rows.numbers held.rows.mappings held.tables held.regions c.self.invariant.store (option_copied c.args.above) c.args.moment.now
          row c.loop-row.row c.service_at.ensures c.loop-row.children c.loop-row.invariant w.in-Some.position w.at.result.now
          w.in-Some.ensures
          (seen_at held.rows.mappings w.in-Some.position w.at.result.now
          (chosen_within held.rows.numbers held.rows.mappings held.tables held.regions c.self.invariant.store (option_copied c.args.above) c.args.moment.now
          row w.in-Some.position w.in-Some.ensures)
          w.at.ensures)
          w.service.result.now w.service.ensures w.in_ok-add.ensures.well_formed w.add.new.self w.in_ok-add.ensures.child)
      | in_default w ↦ rw w.children-is
          (no_more held.rows.numbers held.rows.mappings held.tables held.regions c.self.invariant.store (option_copied c.args.above) c.args.moment.now
          row c.loop-row.row c.service_at.ensures c.loop-row.children c.loop-row.invariant w.in_default.ensures)
    ]

pub returns : goal.returns
returns c =
    let held = c.self.inside in
    let past : length (service_rows held.tables) ≤ c.loop-row.row = search (arith, rules) in
    let all : c.loop-row.children.found ≡ children_in (option_copied c.args.above) (filter (λ (m : Mapping). is_live m c.args.moment.now) c.args.self.now.mappings) =
    all_walked held.rows.numbers held.rows.mappings held.tables held.regions c.self.invariant.store (option_copied c.args.above) c.args.moment.now
    c.services_are_walked.ensures.walked c.loop-row.row c.loop-row.children past c.loop-row.invariant
    ∙ ap (λ l. children_in (option_copied c.args.above) (filter (λ (m : Mapping). is_live m c.args.moment.now) l)) (ap (λ k. k.mappings) c.self.view_is) in
    search rules
