use Rattle.std.proofs.Common.{rules, ◌∙◌, ◌≡◌, ◌≤◌, length, take}
use Rattle.lost_urn.proofs.CutLemmas.{cut_service, cut_boundary}
use Rattle.lost_urn.proofs.urn.ServiceUrn.front.Goals as goal

pub range-requires-clause-end_boundary : goal.range-requires-clause-end_boundary
range-requires-clause-end_boundary c =
    let within : c.end_of_labels-end.result ≤ length c.text-text.result.now = rw (← c.as_bytes.ensures.value) c.end_of_labels-end.ensures.within in
    cut_boundary c.text-text.result.now c.args.self.now c.end_of_labels-end.result c.text-text.ensures.well_formed c.text-text.ensures.text within

pub returns-clause-text : goal.returns-clause-text
returns-clause-text c =
    let front : c.range.result.now ≡ take c.end_of_labels-end.result c.as_bytes.result.now = search rules in
    front ∙ c.end_of_labels-end.ensures.front c.args.self.now c.text-text.ensures.well_formed (c.as_bytes.ensures.value ∙ c.text-text.ensures.text)

pub returns-clause-well_formed : goal.returns-clause-well_formed
returns-clause-well_formed c = cut_service c.args.self.now c.args.labels c.text-text.ensures.well_formed c.requires.some c.requires.within
