use Rattle.std.proofs.Common.{◌≡◌, refl, sym, ap, ◌∙◌}
use Rattle.std.proofs.lemmas.Result.{err_from_is_err_and, IfOk-weaker}
use Rattle.lost_spec.specs.Mapping.{parts_fault, mapping_of}
use Rattle.lost_location.specs.Refusals.{regions_fault}
use Rattle.lost_mapping.specs.Faults.{head_fault}
use Rattle.lost_mapping.specs.Parts.{parts_of}
use Rattle.lost_mapping.proofs.PartsLemmas.{no_head_fault, no_regions_fault, refused_by_none, shaped_where_accepted, mapping_of-is, on_ok_always}
use Rattle.lost_mapping.proofs.mapping.Mapping.build.Goals as goal

pub returns-in_err-head-clause-refused : goal.returns-in_err-head-clause-refused
returns-in_err-head-clause-refused c =
    let parts = parts_of c.args.parts in
    let seen = err_from_is_err_and c.from_residual-in_err-head.result c.from_residual-in_err-head.ensures.1 in
    rw (seen.1, seen.2) (refused_by_none (head_fault parts) (parts_fault parts) _ (no_head_fault parts (c.in_ok-check.ensures ∙ ap parts_fault c.borrowed.ensures)) c.in_err-head.ensures.refuses)

pub returns-in_err-regions-clause-refused : goal.returns-in_err-regions-clause-refused
returns-in_err-regions-clause-refused c =
    let parts = parts_of c.args.parts in
    let seen = err_from_is_err_and c.from_residual-in_err-regions.result c.from_residual-in_err-regions.ensures.1 in
    rw (seen.1, seen.2) (refused_by_none (regions_fault parts.regions) (parts_fault parts) _ (no_regions_fault parts (c.in_ok-check.ensures ∙ ap parts_fault c.borrowed.ensures)) c.in_err-regions.ensures.refuses)

pub share-requires : goal.share-requires
share-requires c = record {
  shaped = shaped_where_accepted _ (parts_of c.args.parts) (c.in_ok-check.ensures ∙ ap parts_fault c.borrowed.ensures) refl refl c.in_ok-regions.ensures.regions;
  own_text = tt;
}

pub returns-clause-accepted : goal.returns-clause-accepted
returns-clause-accepted c = on_ok_always _ (sym (c.in_ok-check.ensures ∙ ap parts_fault c.borrowed.ensures))

pub returns-clause-mapping : goal.returns-clause-mapping
returns-clause-mapping c =
    let head = c.in_ok-head.ensures in
    let regions = c.in_ok-regions.ensures in
    let same = mapping_of-is (parts_of c.args.parts) _ _ _ _ _ _ head.source head.source_id head.stamp head.expires head.service regions.regions in
    IfOk-weaker _ _ (λ mapping. mapping ≡ mapping_of (parts_of c.args.parts)) (λ mapping is. is ∙ same) c.share.ensures.mapping
