use Rattle.std.proofs.Common.{◌∙◌, ap, Some}
use Rattle.std.proofs.lemmas.Result.{err_from_is_err_and}
use Rattle.lost_book.proofs.RefusalLemmas.{refused_replacement}
use Rattle.lost_book.proofs.book.Book.replace.Goals as goal

pub returns-in_err-check_replace : goal.returns-in_err-check_replace
returns-in_err-check_replace c =
    let seen = err_from_is_err_and c.from_residual.result c.from_residual.ensures.1 in
    refused_replacement c.args.self.now c.args.mapping c.from_residual.result seen.0 seen.1 (ap Some seen.2 ∙ c.in_err-check_replace.ensures)
