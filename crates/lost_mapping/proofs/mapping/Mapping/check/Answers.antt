use Rattle.std.proofs.lemmas.Result.{err_from_is_err_and}
use Rattle.lost_mapping.specs.Parts.{borrowed_parts_of}
use Rattle.lost_mapping.proofs.PartsLemmas.{fault_of_head, fault_of_contact, fault_of_areas}
use Rattle.lost_mapping.proofs.mapping.Mapping.check.Goals as goal

pub returns-in_err-check : goal.returns-in_err-check
returns-in_err-check g c =
    let parts = borrowed_parts_of g.T.PartItems.uri_of g.T.PartItems.region_of g.T.PartItems.display_name_of c.args.parts.now in
    let seen = err_from_is_err_and c.from_residual.result c.from_residual.ensures.1 in
    rw (seen.1, seen.2) (fault_of_head parts _ c.in_err-check.ensures)

pub returns-in_err-check_contact : goal.returns-in_err-check_contact
returns-in_err-check_contact g c =
    let parts = borrowed_parts_of g.T.PartItems.uri_of g.T.PartItems.region_of g.T.PartItems.display_name_of c.args.parts.now in
    let seen = err_from_is_err_and c.from_residual-in_err-check_contact.result c.from_residual-in_err-check_contact.ensures.1 in
    rw (seen.1, seen.2) (fault_of_contact parts _ c.in_ok-check.ensures c.in_err-check_contact.ensures)

pub returns : goal.returns
returns g c =
    let parts = borrowed_parts_of g.T.PartItems.uri_of g.T.PartItems.region_of g.T.PartItems.display_name_of c.args.parts.now in
    fault_of_areas parts _ c.in_ok-check.ensures c.in_ok-check_contact.ensures c.check_areas.ensures
