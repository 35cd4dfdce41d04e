use Rattle.std.proofs.Common.{◌≡◌, false, Option, Some, None, is_some, true≢false, option_map, refl, subst, rules, tests}
use Rattle.json.specs.Find.{NextMember}
use Rattle.lost_reading.specs.Members.{only_member}
use Rattle.lost_tape.specs.Tapes.{data_of}
use Rattle.lost_tape.proofs.PartLemmas.{one_held}
use Rattle.lost_tape.proofs.tree.Tree.only_member.Goals as goal

none_is : {A : Type 0} (o : Option A) → is_some o ≡ false → o ≡ None
none_is None e = refl
none_is (Some a) e = absurd (true≢false e)

pub invariant_of-result : goal.invariant_of-result
invariant_of-result c =
    let none = none_is c.next-2.result (search (rules, tests)) in
    let ended = subst (λ r. NextMember c.next.new.self (option_map (λ m. (m.0.now, m.1)) r) c.next-2.new.self) none c.next-2.ensures.value in
    (one_held _ c.in_ok-members.members c.next.new.self c.in_ok-name.name.now c.in_ok-name.element c.next-2.new.self c.self.invariant c.in_ok-members.ensures c.in_ok-name.ensures.value ended).0

pub returns-else-is_some : goal.returns-else-is_some
returns-else-is_some c =
    let none = none_is c.next-2.result (search (rules, tests)) in
    let ended = subst (λ r. NextMember c.next.new.self (option_map (λ m. (m.0.now, m.1)) r) c.next-2.new.self) none c.next-2.ensures.value in
    let held = one_held _ c.in_ok-members.members c.next.new.self c.in_ok-name.name.now c.in_ok-name.element c.next-2.new.self c.self.invariant c.in_ok-members.ensures c.in_ok-name.ensures.value ended in
    subst (λ ts. only_member (data_of ts) ≡ Some (c.in_ok-name.name.now, data_of c.in_ok-name.element)) c.self.view_is held.1
