use Rattle.std.proofs.Common.{Err, ap, ◌∙◌}
use Rattle.std.proofs.lemmas.Result.{err_from_is_err_and}
use Rattle.serde_json.specs.View.{members_view}
use Rattle.lost_reading.specs.Desk.{parts_of_members, mapping_order}
use Rattle.lost_reading.proofs.CheckLemmas.{Err-from_refusal, IfErr-from_refusal, IfErr-accepted}
use Rattle.lost_reading.proofs.desk.read_mapping.Goals as goal

pub returns-in_err-check_members-clause-refused : goal.returns-in_err-check_members-clause-refused
returns-in_err-check_members-clause-refused c =
    let seen = err_from_is_err_and c.from_residual.result c.from_residual.ensures.1 in
    rw (seen.1, seen.2) (λ other edit. Err-from_refusal (mapping_order edit (parts_of_members (members_view c.args.members.now.entries))) c.in_err-check_members.field-0.0 (c.in_err-check_members.ensures edit))

pub returns-in_err-check_members-clause-checked_first : goal.returns-in_err-check_members-clause-checked_first
returns-in_err-check_members-clause-checked_first c =
    let seen = err_from_is_err_and c.from_residual.result c.from_residual.ensures.1 in
    λ edit. IfErr-from_refusal (mapping_order edit (parts_of_members (members_view c.args.members.now.entries))) c.from_residual.result c.in_err-check_members.field-0.0 (seen.1 ∙ ap Err seen.2) (c.in_err-check_members.ensures edit)

pub returns-in_err-parts-clause-checked_first : goal.returns-in_err-parts-clause-checked_first
returns-in_err-parts-clause-checked_first c = λ edit. IfErr-accepted (mapping_order edit (parts_of_members (members_view c.args.members.now.entries))) _ (c.in_ok-check_members.ensures edit)
