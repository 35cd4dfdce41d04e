use Rattle.std.proofs.Common.{◌≡◌, Err, rules, tests, codes}
use Rattle.serde_json.specs.View.{members_view}
use Rattle.lost_spec.specs.Book.{Publish, Replace}
use Rattle.lost_spec.specs.Text.{same_text}
use Rattle.lost_reading.specs.Desk.{parts_of_members, mapping_order}
use Rattle.lost_reading.proofs.CheckLemmas.{passed_on, IfErr-then, IfErr-else}
use Rattle.lost_reading.proofs.desk.read_named_order.Goals as goal

pub returns-in_err-read_mapping-clause-checked_first : goal.returns-in_err-read_mapping-clause-checked_first
returns-in_err-read_mapping-clause-checked_first c =
    let meant = mapping_order Publish (parts_of_members (members_view c.args.members.now.entries)) in
    IfErr-then (same_text (codes "publish") c.args.name.now) meant _ (λ fault. c.from_residual.result ≡ Err fault) c.if-eq.ensures
    (passed_on meant c.read_mapping.result c.from_residual.result (λ fault is. search (rules, tests)) (c.read_mapping.ensures.checked_first Publish))

pub returns-in_err-read_mapping-2-clause-checked_first : goal.returns-in_err-read_mapping-2-clause-checked_first
returns-in_err-read_mapping-2-clause-checked_first c =
    let answer = c.from_residual-in_err-read_mapping-2.result in
    let meant = mapping_order Replace (parts_of_members (members_view c.args.members.now.entries)) in
    IfErr-else (same_text (codes "publish") c.args.name.now) _ _ (λ fault. answer ≡ Err fault) c.if-eq.ensures
    (IfErr-then (same_text (codes "replace") c.args.name.now) meant _ (λ fault. answer ≡ Err fault) c.if-eq-2.ensures
    (passed_on meant c.read_mapping-then-eq-2.result answer (λ fault is. search (rules, tests)) (c.read_mapping-then-eq-2.ensures.checked_first Replace)))
