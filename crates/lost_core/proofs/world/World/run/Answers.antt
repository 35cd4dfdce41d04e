use Rattle.std.proofs.Common.{◌≡◌, suc, [], ◌∷◌, ◌++◌, length, map, Some, refl, sym, ap, subst, ◌∙◌, arith, rules, vec_len}
use Rattle.std.specs.Prelude.{slice_get}
use Rattle.std.specs.Option.{option_map}
use Rattle.std.proofs.lemmas.List.{length-map, length_push, map_push}
use Rattle.std.proofs.lemmas.Option.{slice_get-map, slice_get_read}
use Rattle.std.proofs.lemmas.Iterator.Adapters.{YieldsList-from_vec}
use Rattle.std.proofs.lemmas.Iterator.Consumers.{YieldsList-turn, YieldsList-end}
use Rattle.lost_core.specs.World.{events_to}
use Rattle.lost_core.specs.Values.{step_of, event_of, world_of}
use Rattle.lost_core.proofs.RunLemmas.{IsAt, run_more}
use Rattle.lost_core.proofs.world.World.run.Goals as goal

pub loop-step-preserved : goal.loop-step-preserved
loop-step-preserved c =
    let gives = c.into_iter-step-iterator.ensures.into_iter_gives in
    let len : vec_len c.args.steps ≡ length c.args.steps.items = search rules in
    let turn = YieldsList-turn (YieldsList-from_vec {s = c.into_iter-step-iterator.result} c.args.steps.items gives.0 (gives.1 ∙ len)) c.loop-step.yielded c.loop-step.step-iterator c.loop-step.yielded_by c.next.result c.next.new.self c.in-Some.step c.in-Some.is c.next.ensures.steps in
    let number = length c.loop-step.yielded in
    let next : slice_get (map step_of c.args.steps.items) number ≡ Some (step_of c.in-Some.step) =
    slice_get-map step_of c.args.steps.items number ∙ ap (option_map step_of) (slice_get_read c.args.steps.items (length c.args.steps.items) number c.in-Some.step refl turn.0 turn.1) in
    let more = run_more (world_of c.args.limits c.args.workers c.args.name.now c.args.steps.items) number (step_of c.in-Some.step) c.loop-step.world c.take.new.self (map event_of c.loop-step.events.items) (event_of c.in_ok-event.event)
    next c.loop-step.invariant.0 c.loop-step.invariant.1 c.in_ok-event.ensures.event c.in_ok-event.ensures.after in
    let one_more : suc number ≡ length (c.loop-step.yielded ++ c.in-Some.step ∷ []) = omega (arith, length_push c.loop-step.yielded c.in-Some.step) in
    let pushed : map event_of c.push.new.self.items ≡ map event_of c.loop-step.events.items ++ event_of c.in_ok-event.event ∷ [] =
    ap (map event_of) c.in_ok-push.ensures.items ∙ map_push event_of c.loop-step.events.items c.in_ok-event.event in
    subst (λ n. IsAt (world_of c.args.limits c.args.workers c.args.name.now c.args.steps.items) n c.take.new.self
    × (map event_of c.push.new.self.items ≡ events_to (world_of c.args.limits c.args.workers c.args.name.now c.args.steps.items) n)) one_more
    (more.0, pushed ∙ more.1)

pub returns : goal.returns
returns c =
    let gives = c.into_iter-step-iterator.ensures.into_iter_gives in
    let len : vec_len c.args.steps ≡ length c.args.steps.items = search rules in
    let end = YieldsList-end (YieldsList-from_vec {s = c.into_iter-step-iterator.result} c.args.steps.items gives.0 (gives.1 ∙ len)) c.loop-step.yielded c.loop-step.step-iterator c.loop-step.yielded_by c.next.result c.next.new.self c.in-None.is c.next.ensures.steps in
    let all : length c.loop-step.yielded ≡ length (map step_of c.args.steps.items) = end.1 ∙ sym (length-map c.args.steps.items step_of) in
    c.loop-step.invariant.1 ∙ ap (events_to (world_of c.args.limits c.args.workers c.args.name.now c.args.steps.items)) all
