-- Each call of the desk makes of a crew what its step makes of the world.
use Rattle.std.proofs.Common.{◌≡◌, ℕ, cond, List, [], ◌∷◌, ◌++◌, length, take, Option, Some, None, is_none, refl, sym, ap, subst, ◌∙◌, ⊎_elim, append_assoc, append-nil, arith, length-append}
use Rattle.std.specs.Prelude.{◌-◌, slice_index, Contains}
use Rattle.std.proofs.lemmas.List.{take-append-le, take_all}
use Rattle.std.proofs.lemmas.List.Elements.{Contains-push_cases}
use Rattle.lost_spec.specs.declared.faults.EditError.{EditError}
use Rattle.lost_spec.specs.Book.{Limits, Edit, refusal, book_of}
use Rattle.lost_spec.specs.Laws.{BeginsWith}
use Rattle.lost_history.specs.History.{Beginning}
use Rattle.lost_desk.specs.Seen.{DeskSeen, ReaderSeen, staged_book}
use Rattle.lost_core.specs.World.{Stage, Publish, Staged, Refused, Published, keep, staging}
use Rattle.lost_core.specs.State.{State, state_after}
use Rattle.lost_core.proofs.FrontLemmas.{begins_trans, begins_self}
use Rattle.lost_simulation.specs.Clauses.{StagesEdit, LeavesEdit, PublishesPending, DropsPending, LeavesDesk, TellsPublished}
use Rattle.lost_simulation.specs.Crew.{Setting, Crew, KeepsReaders, IsOfDesk}
use Rattle.lost_simulation.proofs.CutLemmas.{dropped}
use Rattle.lost_simulation.proofs.MirrorLemmas.{HasDesk, AreToldPublished, Mirrors, Leads}

-- the first things of a list are those of its front
pub front_taken : {Thing : Type 0} (xs ys : List Thing) → take (length xs) (xs ++ ys) ≡ xs
front_taken xs ys = take-append-le (length xs) xs ys (omega arith) ∙ take_all (length xs) xs (omega arith)

module _ (setting : Setting) (state : State) (old new : Crew) (mirrors : Mirrors setting state old) where
  -- a call that changes no reader, and leaves published what was
  keeps : (next : State) → HasDesk setting next new.desk → next.met ≡ state.met → KeepsReaders old new → BeginsWith new.desk.published old.desk.published → AreToldPublished new.told new.desk → Mirrors setting next new
  keeps next desk met readers more told = record {
    desk = desk;
    workers = ap length met ∙ mirrors.workers;
    readers = λ worker exists.
        let had = mirrors.readers worker exists in
        let same = readers worker in
        record {
          limits = ap (λ (r : ReaderSeen). r.limits) same ∙ had.limits;
          count = ap (λ (ns : List ℕ). slice_index ns worker) met ∙ had.count ∙ ap (λ (r : ReaderSeen). length r.seen) (sym same);
          published = subst (λ (r : ReaderSeen). BeginsWith new.desk.published r.seen) (sym same) (begins_trans (old.reader worker).seen old.desk.published new.desk.published had.published more);
        };
    told = told;
  }

  -- what was told is published still
  still_told : BeginsWith new.desk.published old.desk.published → AreToldPublished old.told new.desk
  still_told more one has = begins_trans one.list old.desk.published new.desk.published (mirrors.told one has) more

  of_desk : (next : State) → IsOfDesk old new → HasDesk setting next new.desk → next.met ≡ state.met → BeginsWith new.desk.published old.desk.published → Mirrors setting next new
  of_desk next own desk met more =
      keeps next desk met own.readers more (subst (λ (l : List Beginning). AreToldPublished l new.desk) (sym own.same_told) (still_told more))

  same_published : new.desk.published ≡ old.desk.published → BeginsWith new.desk.published old.desk.published
  same_published same = subst (λ (l : List Edit). BeginsWith l old.desk.published) (sym same) (begins_self old.desk.published)

  -- an edit is judged by the same book
  same_refusal : (edit : Edit) → refusal (book_of state.limits state.accepted) edit ≡ refusal (staged_book old.desk) edit
  same_refusal edit =
      ap (λ (limits : Limits). refusal (book_of limits state.accepted) edit) (mirrors.desk.state_limits ∙ sym mirrors.desk.desk_limits)
      ∙ ap (λ (es : List Edit). refusal (book_of old.desk.limits es) edit) mirrors.desk.accepted

  pub takes_edit : (edit : Edit) (pending : ℕ) → IsOfDesk old new → StagesEdit old.desk new.desk edit pending → Leads setting state new (Stage edit, Staged pending)
  takes_edit edit pending own stages =
      let judged : refusal (book_of state.limits state.accepted) edit ≡ None = same_refusal edit ∙ stages.accepted in
      let kept : keep state.limits state.accepted edit ≡ state.accepted ++ edit ∷ [] = ap (λ (o : Option EditError). cond (is_none o) (state.accepted ++ edit ∷ []) state.accepted) judged in
      let published : new.desk.published ≡ old.desk.published = ap (λ (d : DeskSeen). d.published) stages.staged in
      let waiting : new.desk.pending ≡ old.desk.pending ++ edit ∷ [] = ap (λ (d : DeskSeen). d.pending) stages.staged in
      let count : pending ≡ length (keep state.limits state.accepted edit) - state.published =
      omega (
        arith,
        stages.pending,
        ap length waiting,
        length-append old.desk.pending (edit ∷ []),
        ap length kept,
        length-append state.accepted (edit ∷ []),
        ap length mirrors.desk.accepted,
        length-append old.desk.published old.desk.pending,
        mirrors.desk.published,
      ) in
      record {
        gives = ap Staged count ∙ sym (ap (λ (o : Option EditError). staging o (length (keep state.limits state.accepted edit) - state.published)) judged);
        after = of_desk (state_after state (Stage edit)) own
            (record {
              state_limits = mirrors.desk.state_limits;
              desk_limits = ap (λ (d : DeskSeen). d.limits) stages.staged ∙ mirrors.desk.desk_limits;
              accepted =
                  kept ∙ ap (λ (es : List Edit). es ++ edit ∷ []) mirrors.desk.accepted
                  ∙ append_assoc old.desk.published old.desk.pending (edit ∷ [])
                  ∙ ap (λ (d : DeskSeen). d.published ++ d.pending) (sym stages.staged);
              published = mirrors.desk.published ∙ ap length (sym published);
            })
            refl (same_published published);
      }

  -- a desk that stays as it was
  same_desk : (next : State) → IsOfDesk old new → new.desk ≡ old.desk → HasDesk setting next old.desk → next.met ≡ state.met → Mirrors setting next new
  same_desk next own same has met =
      of_desk next own (subst (λ (d : DeskSeen). HasDesk setting next d) (sym same) has) met (same_published (ap (λ (d : DeskSeen). d.published) same))

  pub refuses_edit : (edit : Edit) (error : EditError) → IsOfDesk old new → LeavesEdit old.desk new.desk edit error → Leads setting state new (Stage edit, Refused error)
  refuses_edit edit error own leaves =
      let judged : refusal (book_of state.limits state.accepted) edit ≡ Some error = same_refusal edit ∙ leaves.refused in
      let kept : keep state.limits state.accepted edit ≡ state.accepted = ap (λ (o : Option EditError). cond (is_none o) (state.accepted ++ edit ∷ []) state.accepted) judged in
      record {
        gives = sym (ap (λ (o : Option EditError). staging o (length (keep state.limits state.accepted edit) - state.published)) judged);
        after = same_desk (state_after state (Stage edit)) own leaves.unchanged
            (record {
              state_limits = mirrors.desk.state_limits;
              desk_limits = mirrors.desk.desk_limits;
              accepted = kept ∙ mirrors.desk.accepted;
              published = mirrors.desk.published;
            })
            refl;
      }

  pub commits : (edition : ℕ) → IsOfDesk old new → PublishesPending old.desk new.desk edition → Leads setting state new (Publish, Published edition)
  commits edition own publishes =
      let published : new.desk.published ≡ old.desk.published ++ old.desk.pending = ap (λ (d : DeskSeen). d.published) publishes.committed in
      let all : state.accepted ≡ new.desk.published = mirrors.desk.accepted ∙ sym published in
      record {
        gives = ap Published (publishes.edition ∙ ap length (sym all));
        after = of_desk (state_after state Publish) own
            (record {
              state_limits = mirrors.desk.state_limits;
              desk_limits = ap (λ (d : DeskSeen). d.limits) publishes.committed ∙ mirrors.desk.desk_limits;
              accepted = all ∙ sym (append-nil new.desk.published) ∙ ap (λ (es : List Edit). new.desk.published ++ es) (sym (ap (λ (d : DeskSeen). d.pending) publishes.committed));
              published = ap length all;
            })
            refl
            (old.desk.pending, published);
      }

  pub drops : IsOfDesk old new → DropsPending old.desk new.desk → Mirrors setting (dropped state) new
  drops own none =
      let published : new.desk.published ≡ old.desk.published = ap (λ (d : DeskSeen). d.published) none in
      of_desk (dropped state) own
      (record {
        state_limits = mirrors.desk.state_limits;
        desk_limits = ap (λ (d : DeskSeen). d.limits) none ∙ mirrors.desk.desk_limits;
        accepted =
            ap (λ (n : ℕ). take n state.accepted) mirrors.desk.published
            ∙ ap (take (length old.desk.published)) mirrors.desk.accepted
            ∙ front_taken old.desk.published old.desk.pending
            ∙ sym (append-nil old.desk.published)
            ∙ ap (λ (d : DeskSeen). d.published ++ d.pending) (sym none);
        published = mirrors.desk.published ∙ ap length (sym published);
      })
      refl
      (same_published published)

  pub fails : IsOfDesk old new → LeavesDesk old.desk new.desk → Mirrors setting state new
  fails own same = same_desk state own same mirrors.desk refl

  pub tells : (told : Beginning) → KeepsReaders old new → TellsPublished old.desk new.desk told → new.told ≡ old.told ++ told ∷ [] → Mirrors setting state new
  tells told readers list more =
      let published : new.desk.published ≡ old.desk.published = ap (λ (d : DeskSeen). d.published) list.same in
      let begins : BeginsWith new.desk.published old.desk.published = same_published published in
      keeps state (subst (λ (d : DeskSeen). HasDesk setting state d) (sym list.same) mirrors.desk) refl readers begins
      (λ one has.
      ⊎_elim
      (λ (before : Contains old.told one). still_told begins one before)
      (λ (now : told ≡ one). subst (λ (l : List Edit). BeginsWith new.desk.published l) (sym (ap (λ (b : Beginning). b.list) list.published) ∙ ap (λ (b : Beginning). b.list) now) begins)
      (Contains-push_cases old.told told one (subst (λ (l : List Beginning). Contains l one) more has)))
