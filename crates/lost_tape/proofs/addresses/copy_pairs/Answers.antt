use Rattle.std.proofs.Common.{◌≡◌, [], ◌∷◌, ◌++◌, Some, String, Global, sym, ap, ◌∙◌, append_assoc, append-nil}
use Rattle.std.proofs.lemmas.List.{map-append}
use Rattle.lost_civic.specs.Pairs.{seen_pair}
use Rattle.lost_writing.proofs.NamedLemmas.{Entry}
use Rattle.lost_tape.proofs.MemberLemmas.{seen_entry, seen_entries, pairs_of-named_members}
use Rattle.lost_tape.proofs.addresses.copy_pairs.Goals as goal

pub loop-name-preserved : goal.loop-name-preserved
loop-name-preserved c =
    let done = c.loop-name.invariant.0 in
    let e : Entry = (c.in-Some.name.now, c.in-Some.text.now) in
    let left = c.next.new.self in
    let all : c.args.named.now.entries ≡ done ++ e ∷ left = c.loop-name.invariant.1 ∙ ap (λ es. done ++ es) c.in-Some.ensures.steps in
    let pair : String Global × String Global = (c.in_ok-name.name, c.in_ok-text.text) in
    let pushed = map-append seen_pair c.loop-name.pairs.items (pair ∷ []) in
    let entered = map-append seen_entry done (e ∷ []) in (
      done ++ e ∷ [],
      all ∙ sym (append_assoc done (e ∷ []) left),
      cc (pushed, entered, c.loop-name.invariant.2, c.in_ok-name.ensures, c.in_ok-text.ensures, c.in_ok-add.ensures),
    )

pub returns : goal.returns
returns c =
    let done = c.loop-name.invariant.0 in
    pairs_of-named_members c.args.named.now.entries
    ∙ ap (λ es. Some (seen_entries es)) (c.loop-name.invariant.1 ∙ ap (λ es. done ++ es) c.in-None.ensures.steps.0 ∙ append-nil done)
    ∙ ap Some c.loop-name.invariant.2
