-- The element goes to the end of the last chunk where that has room, and into a chunk of its own where it has none.
use Rattle.std.proofs.Common.{◌<◌, ◌≤◌, ◌-◌, ◌+◌, ◌++◌, ◌∷◌, [], sym, ap, subst, refl, arith, rules, ◌∙◌}
use Rattle.std.specs.VecDeque.{deque_len}
use Rattle.std.proofs.lemmas.Bool.Decides.{nat_tests}
use Rattle.lost_tables.specs.Chunks.{elements, AreFilled}
use Rattle.lost_tables.proofs.ChunkLemmas.{if_refused, pushed_filled, unpushed_filled, pushed, unpushed, filled_behind, filled_first, looked_at, none_at_all, pushed_on}
use Rattle.lost_tables.proofs.chunks.push.Goals as goal
use Rattle.lost_tables.proofs.chunks.push.Goals.{in-Some+else-len-lt-FULL, in_default}

pub returns-in_err-push_back-clause-filled : goal.returns-in_err-push_back-clause-filled
returns-in_err-push_back-clause-filled g c =
    unpushed_filled c.args.chunks.now.items c.args.chunks.now.len c.in-Some.last.now c.push_back.new.self c.requires c.args.chunks.now.ok.0
    (c.in-Some.ensures.variant.0 refl) c.in-Some.ensures.value c.in_err-push_back.ensures.len

pub returns-in_err-push_back-clause-refused : goal.returns-in_err-push_back-clause-refused
returns-in_err-push_back-clause-refused g c =
    if_refused _ c.from_residual.result
    (unpushed c.args.chunks.now.items c.args.chunks.now.len c.in-Some.last.now c.push_back.new.self c.args.chunks.now.ok.0
    (c.in-Some.ensures.variant.0 refl) c.in-Some.ensures.value c.in_err-push_back.ensures.items)

pub returns-then-len-lt-FULL-clause-filled : goal.returns-then-len-lt-FULL-clause-filled
returns-then-len-lt-FULL-clause-filled g c =
    let few : deque_len c.in-Some.last.now < 512 = grind (rules, arith, nat_tests) in
    pushed_filled c.args.chunks.now.items c.args.chunks.now.len c.in-Some.last.now c.push_back.new.self c.requires c.args.chunks.now.ok.0
    (c.in-Some.ensures.variant.0 refl) c.in-Some.ensures.value few c.in_ok-push_back.ensures.len

pub returns-then-len-lt-FULL-clause-pushed : goal.returns-then-len-lt-FULL-clause-pushed
returns-then-len-lt-FULL-clause-pushed g c =
    pushed c.args.chunks.now.items c.args.chunks.now.len c.in-Some.last.now c.push_back.new.self c.args.element c.args.chunks.now.ok.0
    (c.in-Some.ensures.variant.0 refl) c.in-Some.ensures.value c.in_ok-push_back.ensures.items

pub returns-in_err-push-clause-refused : goal.returns-in_err-push-clause-refused
returns-in_err-push-clause-refused g c =
    if_refused _ c.from_residual-in_err-push.result (ap elements (c.in_err-push.ensures.items ∙
    elim c.match-last_mut.branch [
      | in-Some+else-len-lt-FULL w ↦ looked_at c.args.chunks.now.items c.match-last_mut.chunks.items (c.args.chunks.now.len - 1) w.in-Some.last.now
          (ap (λ v. v.items) w.chunks-is) w.in-Some.ensures.value
      | in_default w ↦ ap (λ v. v.items) w.chunks-is
    ]))

pub returns-clause-filled : goal.returns-clause-filled
returns-clause-filled g c =
    subst AreFilled (sym c.in_ok-push.ensures.items)
    (elim c.match-last_mut.branch [
      | in-Some+else-len-lt-FULL w ↦ subst (λ ds. AreFilled (ds ++ c.push_back-2.new.self ∷ []))
          (sym (looked_at c.args.chunks.now.items c.match-last_mut.chunks.items (c.args.chunks.now.len - 1) w.in-Some.last.now
          (ap (λ v. v.items) w.chunks-is) w.in-Some.ensures.value))
          (filled_behind c.args.chunks.now.items c.args.chunks.now.len w.in-Some.last.now c.push_back-2.new.self c.requires c.args.chunks.now.ok.0
          (w.in-Some.ensures.variant.0 refl) w.in-Some.ensures.value (subst (λ n. 512 ≤ n) w.len.ensures w.if-len-lt-FULL.false)
          (c.in_ok-push_back-2.ensures.len ∙ ap (λ n. n + 1) c.new-chunk.ensures.len))
      | in_default w ↦ subst (λ ds. AreFilled (ds ++ c.push_back-2.new.self ∷ [])) (sym (ap (λ v. v.items) w.chunks-is))
          (filled_first c.args.chunks.now.items c.push_back-2.new.self
          (none_at_all c.args.chunks.now.items c.args.chunks.now.len c.args.chunks.now.ok.0 w.in_default.ensures.variant.1)
          (c.in_ok-push_back-2.ensures.len ∙ ap (λ n. n + 1) c.new-chunk.ensures.len))
    ])

pub returns-clause-pushed : goal.returns-clause-pushed
returns-clause-pushed g c =
    pushed_on c.args.chunks.now.items c.match-last_mut.chunks.items c.push.new.self.items c.push_back-2.new.self c.args.element
    c.in_ok-push.ensures.items
    (elim c.match-last_mut.branch [
      | in-Some+else-len-lt-FULL w ↦ looked_at c.args.chunks.now.items c.match-last_mut.chunks.items (c.args.chunks.now.len - 1) w.in-Some.last.now
          (ap (λ v. v.items) w.chunks-is) w.in-Some.ensures.value
      | in_default w ↦ ap (λ v. v.items) w.chunks-is
    ])
    (c.in_ok-push_back-2.ensures.items ∙ ap (λ ts. ts ++ c.args.element ∷ []) c.new-chunk.ensures.items)
