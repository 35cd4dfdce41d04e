use Rattle.std.proofs.Common.{sym, ◌∙◌}
use Rattle.lost_reading.proofs.KnownMembersLemmas.{line_request-read, desk_line-read, no_utf8, tells_line}
use Rattle.lost_reading.proofs.known_members.read_tree.Goals as goal

pub returns-in-Ok-clause-tells : goal.returns-in-Ok-clause-tells
returns-in-Ok-clause-tells c =
    let same = c.in-Ok.ensures.cases in
    tells_line c.read_text.result c.args.line.now _ _ (line_request-read c.args.line.now c.in-Ok.text.now same) (desk_line-read c.args.line.now c.in-Ok.text.now same) c.read_text.ensures.tells

pub returns-in-Ok-clause-neither : goal.returns-in-Ok-clause-neither
returns-in-Ok-clause-neither c refused =
    let same = c.in-Ok.ensures.cases in
    let none = c.read_text.ensures.neither refused in
    (sym (line_request-read c.args.line.now c.in-Ok.text.now same) ∙ none.0, sym (desk_line-read c.args.line.now c.in-Ok.text.now same) ∙ none.1)

pub returns-in-Err-clause-neither : goal.returns-in-Err-clause-neither
returns-in-Err-clause-neither c refused = no_utf8 c.args.line.now c.in-Err.ensures.cases.0
