-- By hand, since no memory holds the list: the body is empty, and the borrow is opened and closed again over a longer list.
use Rattle.std.proofs.Common.{◌<◌, ◌^◌, ℕ, List, [], ◌∷◌, length, refl, MutBor}
use base.Fml.{Fml, GName, Lft, Share, fbor, flft, fobs, ftrue}
use base.Logic.{SProp, emp, ent, fst∗, id⊢, sep, via}
use mir.Syntax.{named}
use mir.Val.{Val, vptr, vunit}
use prog.Memory.{Memory}
use prog.Routine.{Routine}
use prog.Wp.{Calls, Loops, Tables, WpFn}
use seplogic.Ra.Ura.{Ura}
use sound.WpLaws.{WpFn-mono}
use types.ByLocal.{alloc_all, free_all, look_at, pass_all, sets}
use types.Kit.{‵, !, by, done, drop, feq_i, fjoin, fjoin3, frame, fsplit, fsplit3, join, keep, move, qed, split, suffices, use1, ◌⊛◌, ◌$◌, ◌∵◌}
use types.Logic.{Logic, sem}
use types.Run.{enter, of_opd, returns, unit_lit}
use types.SemTy.{Body}
use contract.Monad.{Fun}
use contract.Running.{tables, tables_of}
use denote.Builtin.{u8, u64}
use denote.Exit.{yes}
use denote.Memory.{mem}
use denote.RattleType.{owns}
use denote.Ref.{Bor, MutRef, mut_Tells, mut_vals}
use denote.Signature.{plain}
use denote.Slice.{ShrSlice, shr_slice_Tells, shr_slice_vals, slice_val}
use denote.Steps.{closes, opens}
use denote.Triple.Entry.{on_entry}
use denote.Triple.Spec.{Meets, triple_of}
use denote.Triple.Table.{entered}
use denote.Triple.Walked.{AllGo, Goes-none_slice, Goes-ref, Stays, Walks, ends_at, says, stay_none_slice, stay_ref, walk_Meets, walk_of, walked}
use Rattle.lost_journal_file.specs.Told.{event_of}
use Rattle.lost_journal_file.specs.declared.asked.Asked.{Asked}
use Rattle.lost_journal_file.specs.contracts.asked.Asked as Row
use Rattle.lost_journal_file.specs.contracts.asked.Asked.tell as here
use Rattle.lost_journal_file.specs.contracts.asked.Asked.tell.Key.{name as #here}
use Rattle.lost_journal_file.proofs.asked.Asked.tell.Code as code
use Rattle.lost_journal_file.proofs.asked.Asked.tell.Statement.{statement}

abbrev stay : Stays here.ended.signature.params here.ended.kept
stay = (stay_ref (0 ∷ []) tt (plain (λ _. Row.the_row)), (stay_none_slice (1 ∷ []) tt (plain (λ _. u64)) yes, (stay_none_slice (2 ∷ []) tt (plain (λ _. u8)) yes, tt)))

-- at one call: where the list's struct stands, the lifetimes and shares of the three borrows, and what they show
module _ {M : Type 1} {𝓤 : Ura M} (𝓛 : Logic 𝓤) (at_mem : Memory → SProp 𝓤) (run : Routine → Fun 𝓤) (own num txt : Lft) (own_part num_part txt_part : Share) (block offset : ℕ) (ghost_name : GName) (before : Asked) (numbers bytes : Bor (List ℕ)) where
  open 𝓛 use {H, A}

  abbrev self_val : Val
  self_val = vptr block offset

  abbrev numbers_val : Val
  numbers_val = slice_val numbers.ref_ptr (length numbers.now)

  abbrev bytes_val : Val
  bytes_val = slice_val bytes.ref_ptr (length bytes.now)

  abbrev lifetimes : Lft × (Lft × (Lft × Unit {0}))
  lifetimes = (own, (num, (txt, tt)))

  abbrev parts : Share × (Share × (Share × Unit {0}))
  parts = (own_part, (num_part, (txt_part, tt)))

  abbrev args : MutBor Asked × (Bor (List ℕ) × (Bor (List ℕ) × Unit {0}))
  args = (record { ref_ptr = (block, offset); ghost_name = ghost_name; now = before }, (numbers, (bytes, tt)))

  abbrev vals : List Val × (List Val × (List Val × Unit {0}))
  vals = (self_val ∷ [], (numbers_val ∷ [], (bytes_val ∷ [], tt)))

  abbrev after : Asked
  after = record { nothing = before.nothing; events = event_of numbers.now bytes.now ∷ before.events }

  abbrev shared : Fml
  shared = owns (ShrSlice (named 1) num u64 ∷ ShrSlice (named 2) txt u8 ∷ []) args.1 vals.1

  abbrev Done : Val → SProp 𝓤
  Done = (walk_of 𝓛 here.ended stay (here.clauses 𝓛 at_mem run)).post ((lifetimes, parts, tt, args, vals), tt)

  -- the longer list meets the clause
  ends : ent 𝓤 (sep 𝓤 (A.obs ghost_name (Row.the_row.coded.code after)) (sep 𝓤 (A.bor own (Body (mem Row.the_row) block offset ghost_name)) (sep 𝓤 (A.lft own own_part) (sep 𝓤 (sem 𝓛 shared) (sep 𝓤 (A.lft num num_part) (sep 𝓤 (A.lft txt txt_part) (emp 𝓤))))))) (Done vunit)
  ends =
      qed 𝓛 (‵ (fobs ghost_name (Row.the_row.coded.code after)) ∷ ‵ (fbor own (Body (mem Row.the_row) block offset ghost_name)) ∷ ‵ (flft own own_part) ∷ ‵ shared ∷ (‵ (flft num num_part) ⊛ (‵ (flft txt txt_part) ⊛ ‵ ftrue)) ∷ []) ∵
      suffices ! _ (ends_at 𝓛 here.ended stay (here.clauses 𝓛 at_mem run) ((lifetimes, parts, tt, args, vals), tt) vunit tt (after, (tt, (tt, tt))) (tt, (tt, (tt, tt)))) $
      says ! refl $ move ! (2 ∷ 4 ∷ []) $ join ! $ frame ! $ feq_i ! (List Val) (self_val ∷ []) (self_val ∷ []) refl $ fjoin3 ! $ fjoin ! $
      feq_i ! (List Val) (vunit ∷ []) (vunit ∷ []) refl $ move ! (1 ∷ 0 ∷ []) $ done !

  module _ (C : Calls 𝓤 H) (Λ : Loops 𝓤 H) where
    passes : length numbers.now < 2 ^ 64 → length bytes.now < 2 ^ 64 → ent 𝓤 (on_entry 𝓛 here.signature lifetimes parts args vals) (WpFn 𝓤 H C Λ code.function (self_val ∷ numbers_val ∷ bytes_val ∷ []) Done)
    passes numbers_fit bytes_fit =
        qed 𝓛 ((‵ (flft own own_part) ⊛ (‵ (flft num num_part) ⊛ (‵ (flft txt txt_part) ⊛ ‵ ftrue))) ∷ ‵ (owns (MutRef (named 0) own Row.the_row ∷ ShrSlice (named 1) num u64 ∷ ShrSlice (named 2) txt u8 ∷ []) args vals) ∷ []) ∵
        split ! $ move ! (2 ∷ []) $ fsplit ! $ fsplit3 ! $ drop ! $ move ! (0 ∷ 1 ∷ 3 ∷ []) $
        enter ! C Λ code.function (self_val ∷ numbers_val ∷ bytes_val ∷ []) _ $
        alloc_all ! (λ local. pass_all ! refl ((tt, tt), ((tt, (tt, (record { fits = numbers_fit }, tt))), ((tt, (tt, (record { fits = bytes_fit }, tt))), tt))) $
        move ! (0 ∷ 1 ∷ 2 ∷ []) $ opens ! tt Row.the_row {h = before} block offset (λ held.
        sets ! (of_opd ! (unit_lit !)) refl (tt, tt) $
        move ! (1 ∷ []) $ use1 𝓛 (‵ (Row.the_row.own_val after held)) (id⊢ 𝓤 _) $ move ! (1 ∷ 0 ∷ []) $ closes ! tt Row.the_row after held block offset $
        returns ! (look_at ! 0 refl) $ free_all ! refl $ keep ! (0 ∷ 1 ∷ 2 ∷ 3 ∷ 4 ∷ []) $ by ! ends))

module _ {M : Type 1} {𝓤 : Ura M} (𝓛 : Logic 𝓤) (at_mem : Memory → SProp 𝓤) (run : Routine → Fun 𝓤) (𝓣 : Tables 𝓤 𝓛.H) where
  abbrev body : List Val → (Val → SProp 𝓤) → SProp 𝓤
  body = WpFn 𝓤 𝓛.H 𝓣.C 𝓣.Λ code.function

  walks : Walks 𝓛 here.ended stay body (here.clauses 𝓛 at_mem run)
  walks =
      walked 𝓛 here.ended stay (here.clauses 𝓛 at_mem run) body
      (λ _. (mut_vals, (shr_slice_vals, (shr_slice_vals, tt))))
      (λ κs. (mut_Tells (named 0) κs.0 Row.the_row, (shr_slice_Tells (named 1) κs.1.0 u64, (shr_slice_Tells (named 2) κs.1.1.0 u8, tt))))
      (λ κs qs _ given _ fit. via 𝓤 _ (fst∗ 𝓤 _ (emp 𝓤))
      (passes 𝓛 at_mem run κs.0 κs.1.0 κs.1.1.0 qs.0 qs.1.0 qs.1.1.0 given.0.ref_ptr.0 given.0.ref_ptr.1 given.0.ghost_name given.0.now given.1.0 given.1.1.0 𝓣.C 𝓣.Λ fit.1.0.0.1.0 fit.1.1.0.0.1.0))

  goes : AllGo 𝓛 3 here.signature.params here.ended.kept stay
  goes = (Goes-ref 𝓛 3 0 tt (plain (λ _. Row.the_row)), (Goes-none_slice 𝓛 3 (1 ∷ []) tt (plain (λ _. u64)) yes, (Goes-none_slice 𝓛 3 (2 ∷ []) tt (plain (λ _. u8)) yes, tt)))

  meets : Meets 𝓛 here.signature body (here.spec 𝓛 at_mem run)
  meets = walk_Meets 𝓛 here.ended stay goes (here.clauses 𝓛 at_mem run) body (WpFn-mono 𝓤 𝓛.H 𝓛.laws 𝓣 code.function) walks

pub tell_spec : {M : Type 1} → statement M
unfolding tables_of
tell_spec 𝓤 𝓛 𝓜 𝓡 wired =
    let all = tables 𝓤 𝓛.H 𝓜 𝓡 𝓡.env in
    entered 𝓤 𝓛.H (triple_of 𝓛 here.signature (here.spec 𝓛 𝓜.mem 𝓡.returns)) all.C all.Λ #here code.function (code.unfolded 𝓤 𝓛.H 𝓜 𝓡 wired)
    (meets 𝓛 𝓜.mem 𝓡.returns (tables_of 𝓤 𝓛.H 𝓜 all))
