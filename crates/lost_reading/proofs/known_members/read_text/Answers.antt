use Rattle.std.proofs.Common.{◌≡◌, Some, None, IfSome, sym, ap, ◌∙◌, subst, option_and_then, arith}
use Rattle.serde_json.specs.Data.{object}
use Rattle.serde_json.specs.Find.{as_object}
use Rattle.serde_json.specs.Read.{read as tree_of_text}
use Rattle.serde_json.specs.View.{members_view}
use Rattle.serde_json.proofs.Views.{view-Object}
use Rattle.lost_reading.specs.Desk.{order_in}
use Rattle.lost_reading.specs.KnownMembers.{of_tokens}
use Rattle.lost_reading.specs.Requests.{request_in}
use Rattle.lost_reading.proofs.KnownMembersLemmas.{request_names, order_names, no_request, no_order}
use Rattle.lost_reading.proofs.known_members.read_text.Goals as goal

pub returns-clause-tells : goal.returns-clause-tells
returns-clause-tells c =
    let found = c.in_ok-read_whole.ensures.ok in
    let kept = members_view c.in_ok-read_whole.field-0.entries in
    let is : tree_of_text c.args.text.now ≡ Some (object found.0) = ap of_tokens (sym c.in_ok-reader.ensures.ok) ∙ found.1 in (
      ap (option_and_then request_in) is ∙ request_names found.0 kept found.2 ∙ ap request_in (sym (view-Object c.in_ok-read_whole.field-0)),
      ap (option_and_then order_in) is ∙ order_names found.0 kept found.2 ∙ ap order_in (sym (view-Object c.in_ok-read_whole.field-0)),
    )

pub returns-in_err-read_whole-clause-neither : goal.returns-in_err-read_whole-clause-neither
returns-in_err-read_whole-clause-neither c refused =
    let none = subst (λ ts. IfSome (of_tokens ts) (λ d. as_object d ≡ None)) c.in_ok-reader.ensures.ok (c.read_whole.ensures.err (grind arith)) in
    (no_request (tree_of_text c.args.text.now) none, no_order (tree_of_text c.args.text.now) none)
