use Rattle.std.proofs.Common.{sym}
use Rattle.std.specs.Option.{option_copied}
use Rattle.lost_query.proofs.InsertLemmas.{with_some-insert_key, AreServices-insert_key, with_child_to-found}
use Rattle.lost_query.proofs.services.children.Children.add.Goals as goal

pub invariant_of-self : goal.invariant_of-self
invariant_of-self c =
    AreServices-insert_key c.in_ok-child.field-0 c.in-Some.child c.self.inside.found.keys c.insert.new.self.keys c.in-Some.is c.in_ok-child.ensures.service c.self.invariant c.in_ok-insert.ensures.keys

pub returns-in_ok-insert-clause-child : goal.returns-in_ok-insert-clause-child
returns-in_ok-insert-clause-child c =
    let old = c.self.inside.found.keys in
    let put_in = with_some-insert_key c.in_ok-child.field-0 c.in-Some.child old c.insert.new.self.keys c.in-Some.is c.in_ok-child.ensures.service c.self.invariant c.in_ok-insert.ensures.keys in
    with_child_to-found (option_copied c.self.inside.above) c.args.service.now c.in_ok-child.field-0 old c.insert.new.self.keys c.args.self.now (sym c.self.view_is) c.in_ok-child.ensures.child put_in
