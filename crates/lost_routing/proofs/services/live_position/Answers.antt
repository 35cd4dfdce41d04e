-- What the closure answers is the test.
use Rattle.std.proofs.Common.{rules}
use Rattle.lost_routing.specs.Walk.{is_live_of}
use Rattle.lost_routing.proofs.services.live_position.Goals as goal

pub returns : goal.returns
returns c = c.one.ensures (λ m. is_live_of m c.args.moment.now c.args.text.now) (λ m r says. search rules)
