use Rattle.std.proofs.Common.{◌≡◌, [], ◌∷◌, ◌++◌, sym, ap, ◌∙◌, append_assoc}
use Rattle.lost_writing.proofs.NamedLemmas.{Entry, named_members-more}
use Rattle.lost_writing.proofs.writing.regions.write_named.Goals as goal

pub loop-name-preserved : goal.loop-name-preserved
loop-name-preserved c =
    let done = c.loop-name.invariant.0 in
    let e : Entry = (c.in-Some.name.now, c.in-Some.value.now) in
    let left = c.next.new.self in
    let all : c.args.named.now.entries ≡ done ++ e ∷ left = c.loop-name.invariant.1 ∙ ap (λ es. done ++ es) c.in-Some.ensures.steps in
    let more = named_members-more done e c.args.text.now in (
      done ++ e ∷ [],
      all ∙ sym (append_assoc done (e ∷ []) left),
      cc (more, c.loop-name.invariant.2, c.in_ok-text_member.ensures),
    )
