use Rattle.std.proofs.Common.{sym, ◌∙◌}
use Rattle.lost_urn.proofs.BelowLemmas.{below_at_end, below_by_dot, not_below_apart, front_found, front_not_found}
use Rattle.lost_urn.proofs.urn.ServiceUrn.is_at_or_below.Goals as goal

pub returns-then-is_empty : goal.returns-then-is_empty
returns-then-is_empty c =
    let begins = front_found c.args.self.now c.args.other.now c.as_bytes.result.now c.as_bytes-2.result.now (c.as_bytes.ensures.value ∙ c.text.ensures.text) (c.as_bytes-2.ensures.value ∙ c.text-2.ensures.text) c.in-Some.rest.now c.in-Some.ensures.cases.0 c.in-Some.ensures.cases.1 in
    c.if-is_empty.true ∙ sym (below_at_end c.args.self.now c.args.other.now c.in-Some.rest.now c.text.ensures.well_formed c.text-2.ensures.well_formed begins c.if-is_empty.ensures)

pub returns-else-is_empty : goal.returns-else-is_empty
returns-else-is_empty c =
    let begins = front_found c.args.self.now c.args.other.now c.as_bytes.result.now c.as_bytes-2.result.now (c.as_bytes.ensures.value ∙ c.text.ensures.text) (c.as_bytes-2.ensures.value ∙ c.text-2.ensures.text) c.in-Some.rest.now c.in-Some.ensures.cases.0 c.in-Some.ensures.cases.1 in
    below_by_dot c.args.self.now c.args.other.now c.in-Some.rest.now c.starts_with.result c.text.ensures.well_formed c.text-2.ensures.well_formed begins c.if-is_empty.ensures c.starts_with.ensures.value

pub returns-in-None : goal.returns-in-None
returns-in-None c =
    sym (not_below_apart c.args.self.now c.args.other.now c.text-2.ensures.well_formed
    (front_not_found c.args.self.now c.args.other.now c.as_bytes.result.now c.as_bytes-2.result.now (c.as_bytes.ensures.value ∙ c.text.ensures.text) (c.as_bytes-2.ensures.value ∙ c.text-2.ensures.text) c.in-None.ensures.cases))
