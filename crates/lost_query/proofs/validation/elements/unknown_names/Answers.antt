use Rattle.std.specs.Iterator.Adapters.{rev_source}
use Rattle.std.specs.Slice.Iter.{iter_rest}
use Rattle.lost_query.proofs.NameLemmas.{unknown_names_more}
use Rattle.lost_query.proofs.validation.elements.unknown_names.Goals as goal

pub loop-pair-preserved-in_ok-insert : goal.loop-pair-preserved-in_ok-insert
loop-pair-preserved-in_ok-insert c =
    let invariant = c.loop-pair.invariant in
    unknown_names_more (iter_rest (rev_source c.loop-pair.pair-iterator)) (iter_rest (rev_source c.next.new.self)) c.in-Some.pair.now invariant.0 c.args.address.now c.loop-pair.names.keys c.insert.new.self.keys c.in_ok-clone.field-0 c.by_name.result c.is_none.result c.in-Some.ensures.steps invariant.1 invariant.2 (rw c.as_str.ensures.value at c.by_name.ensures.unknown) c.is_none.ensures c.if-is_none.true c.in_ok-insert.ensures.keys c.in_ok-clone.ensures.cases
