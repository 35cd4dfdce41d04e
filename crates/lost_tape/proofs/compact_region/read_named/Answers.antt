use Rattle.std.proofs.Common.{rules, ◌≡◌, ◌∷◌, ◌++◌, [], Some, refl, sym, ap, ◌∙◌}
use Rattle.lost_spec.specs.Text.{Text}
use Rattle.lost_writing.specs.Named.{named_members}
use Rattle.lost_tape.proofs.ValueLemmas.{put_last, named_begin, named_more, named_end}
use Rattle.lost_tape.proofs.compact_region.read_named.Goals as goal

pub loop-named-preserved : goal.loop-named-preserved
loop-named-preserved c =
    let done = c.loop-named.invariant in
    let pair : Text × Text = (c.in_ok-name.name.now, c.in_ok-value.value.now) in
    let comma : c.in_ok-value.behind.now ≡ 44 ∷ c.in-Some-eq44-default.more.now = search rules in
    let front = named_begin pair c.loop-named.rest.now c.in_ok-name.behind.now c.in_ok-behind.behind.now c.in_ok-value.behind.now
    c.in_ok-name.ensures.text c.in_ok-name.ensures.plain c.in_ok-behind.ensures c.in_ok-value.ensures.text c.in_ok-value.ensures.plain in (
      done.0 ++ pair ∷ [],
      named_more done.0 pair c.args.text.now c.loop-named.rest.now c.in_ok-value.behind.now c.in-Some-eq44-default.more.now done.1 front comma,
      put_last done.0 pair _ (named_members c.loop-named.named.entries) done.2 ∙ ap Some (sym c.in_ok-put.ensures),
    )

pub returns-in-Some-eq125-default : goal.returns-in-Some-eq125-default
returns-in-Some-eq125-default c =
    let done = c.loop-named.invariant in
    let pair : Text × Text = (c.in_ok-name.name.now, c.in_ok-value.value.now) in
    let bracket : c.in_ok-value.behind.now ≡ 125 ∷ c.in-Some-eq125-default.end.now = search rules in
    let front = named_begin pair c.loop-named.rest.now c.in_ok-name.behind.now c.in_ok-behind.behind.now c.in_ok-value.behind.now
    c.in_ok-name.ensures.text c.in_ok-name.ensures.plain c.in_ok-behind.ensures c.in_ok-value.ensures.text c.in_ok-value.ensures.plain in
    named_end done.0 pair c.args.text.now c.loop-named.rest.now c.in_ok-value.behind.now c.in-Some-eq125-default.end.now (named_members c.loop-named.named.entries) done.1 front bracket done.2
    (named_members c.put.new.named.entries) c.in_ok-put.ensures
