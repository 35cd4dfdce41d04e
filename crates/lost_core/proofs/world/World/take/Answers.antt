use Rattle.lost_core.specs.Values.{replies_of}
use Rattle.lost_core.proofs.world.World.take.Goals as goal

pub returns-in-Stage-clause-event : goal.returns-in-Stage-clause-event
returns-in-Stage-clause-event c = rw c.in-Stage.is (c.stage.ensures.event (replies_of c.args.name.now))

pub returns-in-Publish-clause-event : goal.returns-in-Publish-clause-event
returns-in-Publish-clause-event c = rw c.in-Publish.is (c.publish.ensures.event (replies_of c.args.name.now))

pub returns-in-Enter-clause-event : goal.returns-in-Enter-clause-event
returns-in-Enter-clause-event c = rw c.in-Enter.is (c.enter.ensures.event (replies_of c.args.name.now))

pub returns-in-Tell-clause-event : goal.returns-in-Tell-clause-event
returns-in-Tell-clause-event c = rw c.in-Tell.is (c.tell.ensures.event (replies_of c.args.name.now))
