use Rattle.std.proofs.Common.{◌≡◌, [], ◌∷◌, ◌++◌, string_bytes}
use Rattle.std.proofs.lemmas.Result.{err_from_is_err_and}
use Rattle.serde_json.specs.Find.{as_str}
use Rattle.serde_json.specs.View.{view}
use Rattle.serde_json.proofs.Views.{Entry}
use Rattle.lost_reading.proofs.EachLemmas.{Refuses-whole, pairs_of-more, pairs_of-at_None, one_step_on}
use Rattle.lost_reading.proofs.kinds.copy_pairs.Goals as goal

pub returns-in_err-text : goal.returns-in_err-text
returns-in_err-text c =
    let e : Entry = (c.in-Some.name.now, c.in-Some.value.now) in
    let seen = err_from_is_err_and c.from_residual.result c.from_residual.ensures.1 in
    rw (seen.1, seen.2) (Refuses-whole _ (as_str (view e.1)) _ (pairs_of-at_None c.args.members.now.entries _ _ _ e c.loop-name.invariant.1 c.in-Some.ensures.steps) c.in_err-text.ensures)

pub loop-name-preserved : goal.loop-name-preserved
loop-name-preserved c =
    let done = c.loop-name.invariant.0 in
    let e : Entry = (c.in-Some.name.now, c.in-Some.value.now) in
    let named : string_bytes c.in_ok-name.name ≡ string_bytes e.0 = c.in_ok-name.ensures.cases in
    let pushed : c.push.new.self.items ≡ c.loop-name.pairs.items ++ (c.in_ok-name.name, c.in_ok-text.text) ∷ [] = c.in_ok-push.ensures.items in (
      done ++ e ∷ [],
      one_step_on _ done _ _ e c.loop-name.invariant.1 c.in-Some.ensures.steps,
      rw pushed (pairs_of-more done e c.loop-name.pairs.items c.in_ok-name.name c.in_ok-text.text named c.in_ok-text.ensures c.loop-name.invariant.2),
    )
