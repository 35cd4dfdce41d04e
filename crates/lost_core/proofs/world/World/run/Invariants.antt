use Rattle.std.proofs.Common.{◌≡◌, map, length}
use Rattle.lost_core.specs.World.{events_to}
use Rattle.lost_core.specs.Values.{event_of, world_of}
use Rattle.lost_core.proofs.RunLemmas.{IsAt}
use Rattle.lost_core.proofs.world.World.run.Given as goal

abbrev pub invariant-loop-step : goal.invariant-loop-step
invariant-loop-step l =
    IsAt (world_of l.fn.limits l.fn.workers l.fn.name l.fn.steps.items) (length l.yielded) l.world
    × (map event_of l.events.items ≡ events_to (world_of l.fn.limits l.fn.workers l.fn.name l.fn.steps.items) (length l.yielded))
