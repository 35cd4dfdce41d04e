use Rattle.std.proofs.Common.{Ok, IfSome, option_and_then, subst}
use Rattle.serde_json.specs.Read.{read}
use Rattle.lost_reading.specs.Desk.{order_in}
use Rattle.lost_reading.specs.Lines.{GivesWhole}
use Rattle.lost_reading.specs.Requests.{line_request}
use Rattle.lost_reading.proofs.KnownMembersLemmas.{line_request-read, desk_line-read}
use Rattle.lost_tape.proofs.line.read_by_tokens.Goals as goal

pub returns-in-Ok : goal.returns-in-Ok
returns-in-Ok c =
    let request = line_request-read c.args.line.now _ c.in-Ok.ensures.cases in
    let order = desk_line-read c.args.line.now _ c.in-Ok.ensures.cases in
    subst (λ o. IfSome c.read_text.result (λ found. GivesWhole (Ok found) o (line_request c.args.line.now))) order
    (subst (λ o. IfSome c.read_text.result (λ found. GivesWhole (Ok found) (option_and_then order_in (read c.in-Ok.text.now)) o)) request c.read_text.ensures)
