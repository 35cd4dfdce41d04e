use Rattle.std.proofs.Common.{◌≡◌, [], ◌∷◌, ◌++◌, Option, None, Some, is_some, is_none, option_map, true, false, string_bytes, rules, tests, sym, ap}
use Rattle.serde_json.specs.Find.{as_str}
use Rattle.serde_json.specs.View.{view}
use Rattle.serde_json.proofs.Views.{Entry}
use Rattle.lost_reading.proofs.EachLemmas.{pairs_of-member, pairs_of-at_None, one_step_on}
use Rattle.lost_reading.proofs.kinds.are_texts.Goals as goal

as_none : {R T : Type 0} (r : Option R) (f : R → T) (found : Option T) → option_map f r ≡ found → is_none r ≡ true → found ≡ None
as_none None f found h e = sym h
as_none (Some x) f found h e = cc

as_some : {R T : Type 0} (r : Option R) (f : R → T) (found : Option T) → option_map f r ≡ found → is_none r ≡ false → (t : T) × (found ≡ Some t)
as_some None f found h e = cc
as_some (Some x) f found h e = (f x, sym h)

pub returns-then-is_none : goal.returns-then-is_none
returns-then-is_none c =
    let e : Entry = (c.in-Some._name.now, c.in-Some.value.now) in
    let none : as_str (view e.1) ≡ None = as_none c.as_str.result _ _ c.as_str.ensures (search (rules, tests)) in
    sym (ap is_some (pairs_of-at_None c.args.members.now.entries _ _ _ e c.loop-name.invariant.1 c.in-Some.ensures.steps none))

pub loop-name-preserved : goal.loop-name-preserved
loop-name-preserved c =
    let done = c.loop-name.invariant.0 in
    let pairs = c.loop-name.invariant.2 in
    let e : Entry = (c.in-Some._name.now, c.in-Some.value.now) in
    let text = as_some c.as_str.result _ (as_str (view e.1)) c.as_str.ensures (search (rules, tests)) in (
      done ++ e ∷ [],
      one_step_on _ done _ _ e c.loop-name.invariant.1 c.in-Some.ensures.steps,
      pairs ++ (string_bytes e.0, text.0) ∷ [],
      pairs_of-member done e pairs text.0 text.1 c.loop-name.invariant.3,
    )
