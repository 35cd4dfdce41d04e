use Rattle.std.proofs.Common.{◌≡◌, ◌∙◌, ap, sym, ◌++◌, ◌∷◌, [], Err, rules}
use Rattle.std.specs.Result.{result_err}
use Rattle.lost_spec.specs.declared.faults.EditError.TheVariants.{Memory}
use Rattle.lost_spec.specs.Book.{refusal}
use Rattle.lost_mapping.specs.Edit.{edit_of}
use Rattle.lost_routing.proofs.RefusalLemmas.{memory_after_none}
use Rattle.lost_desk.specs.Seen.{staged_book}
use Rattle.lost_desk.proofs.DeskLemmas.{stage_gives, counts}
use Rattle.lost_desk.proofs.desk.Desk.stage.Goals as goal

pub invariant_of-self-2 : goal.invariant_of-self-2
invariant_of-self-2 c =
    stage_gives c.self.inside.copies c.self.inside.queue.items c.self.inside.ahead c.self.inside.front c.self.inside.head c.self.inside.digest c.self.invariant c.args.edit c.in-Ok.copy c.push_back_reserved.new.self.items c.apply.new.self
    (c.push_back_reserved.ensures.items ∙ ap (λ es. es ++ c.args.edit ∷ []) c.reserve.ensures.items) c.in_ok-apply.ensures.changed c.in-Ok.ensures (sym c.in_ok-check.ensures)

pub overflow_sub-result : goal.overflow_sub-result
overflow_sub-result c =
    let d = stage_gives c.self.inside.copies c.self.inside.queue.items c.self.inside.ahead c.self.inside.front c.self.inside.head c.self.inside.digest c.self.invariant c.args.edit c.in-Ok.copy c.push_back_reserved.new.self.items c.apply.new.self
    (c.push_back_reserved.ensures.items ∙ ap (λ es. es ++ c.args.edit ∷ []) c.reserve.ensures.items) c.in_ok-apply.ensures.changed c.in-Ok.ensures (sym c.in_ok-check.ensures) in
    (counts c.self.inside.copies c.push_back_reserved.new.self.items c.apply.new.self c.self.inside.front c.self.inside.head c.self.inside.digest d c.edition.result c.len.result c.shown.result.now c.edition.ensures c.len.ensures c.shown.ensures).0

pub returns-clause-pending : goal.returns-clause-pending
returns-clause-pending c =
    let d = stage_gives c.self.inside.copies c.self.inside.queue.items c.self.inside.ahead c.self.inside.front c.self.inside.head c.self.inside.digest c.self.invariant c.args.edit c.in-Ok.copy c.push_back_reserved.new.self.items c.apply.new.self
    (c.push_back_reserved.ensures.items ∙ ap (λ es. es ++ c.args.edit ∷ []) c.reserve.ensures.items) c.in_ok-apply.ensures.changed c.in-Ok.ensures (sym c.in_ok-check.ensures) in
    (counts c.self.inside.copies c.push_back_reserved.new.self.items c.apply.new.self c.self.inside.front c.self.inside.head c.self.inside.digest d c.edition.result c.len.result c.shown.result.now c.edition.ensures c.len.ensures c.shown.ensures).1

pub returns-in_err-check-clause-memory_last : goal.returns-in_err-check-clause-memory_last
returns-in_err-check-clause-memory_last c = λ memory.
    let refused : c.check.result ≡ Err Memory = search rules in
    let checked : result_err c.check.result ≡ refusal (staged_book c.args.self.now) (edit_of c.args.edit) = search rules in
    memory_after_none (staged_book c.args.self.now) (edit_of c.args.edit) c.check.result checked refused
