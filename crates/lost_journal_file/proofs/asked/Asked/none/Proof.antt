-- By hand, since no memory holds the list: the struct is made with no bytes, and its list is empty.
use mathlib.Core.Path.{refl}
use mathlib.Core.List.{List, [], ◌∷◌}
use base.Logic.{SProp}
use mir.Val.{Val, vcons, vnil, vstruct}
use prog.Memory.{Memory}
use prog.Routine.{Routine}
use prog.Wp.{Tables, WpFn}
use seplogic.Ra.Ura.{Ura}
use sound.WpLaws.{WpFn-mono}
use types.ByLocal.{alloc_all, free_all, get, look_at, pass_all, sets}
use types.Kit.{ !, done, join, keep, qed, raw, suffices, ◌$◌, ◌∵◌}
use types.Logic.{Logic}
use types.Part.{agg}
use types.Run.{and_then, enter, no_more, returns}
use contract.Monad.{Fun}
use contract.Running.{tables, tables_of}
use denote.Shadow.{pure_i}
use denote.Steps.{nothing}
use denote.Triple.Entry.{on_entry}
use denote.Triple.Spec.{Meets, triple_of}
use denote.Triple.Table.{entered}
use denote.Triple.Walked.{ends_at, says, walk_Meets, walked}
use Rattle.lost_journal_file.specs.declared.asked.Asked.{Asked}
use Rattle.lost_journal_file.specs.contracts.asked.Asked as Row
use Rattle.lost_journal_file.specs.contracts.asked.Asked.none as here
use Rattle.lost_journal_file.specs.contracts.asked.Asked.none.Key.{name as #here}
use Rattle.lost_journal_file.proofs.asked.Asked.none.Code as code
use Rattle.lost_journal_file.proofs.asked.Asked.none.Statement.{statement}

-- what stands in memory, and what clauses see
abbrev no_bytes : Val
no_bytes = vstruct vnil

abbrev made : Val
made = vstruct (vcons no_bytes vnil)

abbrev empty : Asked
empty = record { nothing = record {}; events = [] }

module _ {M : Type 1} {𝓤 : Ura M} (𝓛 : Logic 𝓤) (at_mem : Memory → SProp 𝓤) (run : Routine → Fun 𝓤) (𝓣 : Tables 𝓤 𝓛.H) where
  abbrev body : List Val → (Val → SProp 𝓤) → SProp 𝓤
  body = WpFn 𝓤 𝓛.H 𝓣.C 𝓣.Λ code.function

  meets : Meets 𝓛 here.signature body (here.spec 𝓛 at_mem run)
  meets =
      let told = here.clauses 𝓛 at_mem run in
      let grows = WpFn-mono 𝓤 𝓛.H 𝓛.laws 𝓣 code.function in
      walk_Meets 𝓛 here.ended tt tt told body grows
      (walked 𝓛 here.ended tt told body (λ _. tt) (λ _. tt) (λ κs qs bounds args ghosts _.
      qed 𝓛 (raw (on_entry 𝓛 here.signature κs qs args tt) ∷ raw ((told κs args).requires ghosts) ∷ []) ∵ keep ! [] $
      enter ! 𝓣.C 𝓣.Λ code.function [] _ $ alloc_all ! (λ local. pass_all ! refl tt $
      sets ! (agg ! (no_more !)) refl (tt, tt) $ sets ! (agg ! (and_then ! (get ! refl) (no_more !))) refl (tt, (tt, tt)) $
      returns ! (look_at ! 0 refl) $ free_all ! refl $
      pure_i ! (Row.the_row.own_val empty (made ∷ [])) ((λ _. (tt, ((λ _. (tt, tt)), tt))), tt) (((no_bytes ∷ [], tt), (refl, ((tt, (refl, tt)), tt))), tt) $
      suffices ! _ (ends_at 𝓛 here.ended tt told ((κs, qs, bounds, args, tt), ghosts) made empty tt tt) $ says ! refl $ nothing ! $ join ! $ nothing ! $ done !)))

pub none_spec : {M : Type 1} → statement M
unfolding tables_of
none_spec 𝓤 𝓛 𝓜 𝓡 wired =
    let all = tables 𝓤 𝓛.H 𝓜 𝓡 𝓡.env in
    entered 𝓤 𝓛.H (triple_of 𝓛 here.signature (here.spec 𝓛 𝓜.mem 𝓡.returns)) all.C all.Λ #here code.function (code.unfolded 𝓤 𝓛.H 𝓜 𝓡 wired)
    (meets 𝓛 𝓜.mem 𝓡.returns (tables_of 𝓤 𝓛.H 𝓜 all))
