use Rattle.std.proofs.Common.{sym, ap, ◌∙◌, subst}
use Rattle.serde_json.specs.Data.{put}
use Rattle.lost_writing.specs.Named.{named_members}
use Rattle.lost_tape.specs.Tapes.{data_of, HoldsMembers}
use Rattle.lost_tape.proofs.MemberLemmas.{is_text}
use Rattle.lost_tape.proofs.addresses.by_name.Goals as goal

pub loop-name-preserved : goal.loop-name-preserved
loop-name-preserved c all h =
    let name = c.in-Some.name.now in
    let before = named_members c.loop-name.named.entries in
    let next = c.in-Some.ensures.value before all (c.loop-name.invariant all h) in
    let is = is_text (data_of c.in-Some.tree) c.in_ok-text.text.now c.in_ok-text.ensures in
    subst (λ ms. HoldsMembers c.next.new.self ms all) (ap (λ d. put name d before) is ∙ sym c.in_ok-put.ensures) next
