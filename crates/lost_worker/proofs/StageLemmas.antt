-- The steps of a desk by an edit and by a commit, by what became of them.
use Rattle.std.proofs.Common.{◌≡◌, ◌≢◌, ⊎_elim, ℕ, ◌-◌, false, List, [], ◌∷◌, ◌++◌, length, Option, None, Some, Result, Ok, refl, ap, sym, ◌∙◌, append_assoc, append-nil, length-append, arith}
use Rattle.lost_spec.specs.declared.faults.EditError.{EditError}
use Rattle.lost_spec.specs.declared.faults.EditError.TheVariants.{Memory}
use Rattle.lost_spec.specs.Text.{Text}
use Rattle.lost_spec.specs.Codes.{edit_code}
use Rattle.lost_spec.specs.Book.{Edit, refusal}
use Rattle.lost_writing.specs.declared.desk_reply.DeskReply.TheVariants.{Staged, Committed}
use Rattle.lost_reading.specs.declared.desk.DeskFault.{DeskFault}
use Rattle.lost_reading.specs.Desk.{Order, Stage, Commit}
use Rattle.lost_writing.specs.DeskReplies.{desk_text}
use Rattle.lost_desk.specs.Seen.{DeskSeen, staged_book, with_staged, with_committed}
use Rattle.lost_lines.specs.Run.{Reply}
use Rattle.lost_json.specs.Stream.{Unmarked, RefusedMemory, IsTaken, refused_text}
use Rattle.lost_json.proofs.FaultLemmas.{memory_or_other}
use Rattle.lost_worker.specs.Desking.{IsJudged, IsSameDesk, desk_terms, lists_of}

pub IsSameDesk-from_staged : (old new : DeskSeen) (edit : Edit) → new ≡ with_staged old edit → IsSameDesk old new
IsSameDesk-from_staged old new edit changed = record { opening = ap (λ (d : DeskSeen). d.opening) changed; limits = ap (λ (d : DeskSeen). d.limits) changed }

pub IsSameDesk-from_committed : (old new : DeskSeen) → new ≡ with_committed old → IsSameDesk old new
IsSameDesk-from_committed old new changed = record { opening = ap (λ (d : DeskSeen). d.opening) changed; limits = ap (λ (d : DeskSeen). d.limits) changed }

pub IsSameDesk-none : (old new : DeskSeen) → new ≡ old → IsSameDesk old new
IsSameDesk-none old new same = record { opening = ap (λ (d : DeskSeen). d.opening) same; limits = ap (λ (d : DeskSeen). d.limits) same }

-- how many edits are pending, from those that are accepted and those that are published
pending_number : (p q : List Edit) (e : Edit) → length (q ++ e ∷ []) ≡ length ((p ++ q) ++ e ∷ []) - length p
pending_number p q e = omega (arith, length-append (p ++ q) (e ∷ []), length-append p q, length-append q (e ∷ []))

-- there is no memory for an order that is not refused, and the desk stays
short_step : (line : Text) (old new : DeskSeen) (order : Option (Result Order DeskFault)) (reply : Reply) → IsTaken (staged_book old) order → new ≡ old → reply ≡ record { text = refused_text 20; is_internal_error = false }
    → IsJudged (desk_terms old.limits) (lists_of old) line order reply (lists_of new)
short_step line old new order reply taken unchanged said = record {
  step = record {
    mark = RefusedMemory;
    may_have = taken;
    text_is = ap (λ (r : Reply). r.text) said;
    memory_is = ap (λ (r : Reply). r.is_internal_error) said;
    lists_are = ap lists_of unchanged;
  };
  was_read = λ is. absurd (cc);
}

module _ (line : Text) (old new : DeskSeen) (edit : Edit) (reply : Reply) where
  abbrev pub StepTo : Type 0
  StepTo = IsJudged (desk_terms old.limits) (lists_of old) line (Some (Ok (Stage edit))) reply (lists_of new)

  abbrev pub Says : Text → Type 0
  Says text = reply ≡ record { text = text; is_internal_error = false }

  -- the edit is staged
  pub staged_step : refusal (staged_book old) edit ≡ None → new ≡ with_staged old edit → (pending : ℕ) → pending ≡ length new.pending → Says (desk_text (Staged pending)) → StepTo
  staged_step accepted changed pending counted said = record {
    step = record {
      mark = Unmarked;
      may_have = tt;
      text_is = ap (λ (r : Reply). r.text) said ∙ ap (λ n. desk_text (Staged n)) (counted ∙ ap (λ (d : DeskSeen). length d.pending) changed ∙ pending_number old.published old.pending edit) ∙ rw accepted refl;
      memory_is = ap (λ (r : Reply). r.is_internal_error) said;
      lists_are = ap lists_of changed ∙ ap (λ es. record { accepted = es; published = old.published }) (sym (append_assoc old.published old.pending (edit ∷ []))) ∙ rw accepted refl;
    };
    was_read = λ is. absurd (cc);
  }

  -- the edit is refused, and the desk stays
  refused_edit : (e : EditError) → refusal (staged_book old) edit ≡ Some e → new ≡ old → Says (refused_text (edit_code e)) → StepTo
  refused_edit e refused unchanged said = record {
    step = record {
      mark = Unmarked;
      may_have = tt;
      text_is = ap (λ (r : Reply). r.text) said ∙ rw refused refl;
      memory_is = ap (λ (r : Reply). r.is_internal_error) said;
      lists_are = ap lists_of unchanged ∙ rw refused refl;
    };
    was_read = λ is. absurd (cc);
  }

  -- the edit is not refused, and there is no memory for it
  short : refusal (staged_book old) edit ≡ None → new ≡ old → Says (refused_text 20) → StepTo
  short accepted unchanged said = short_step line old new (Some (Ok (Stage edit))) reply accepted unchanged said

  pub refused_step : (e : EditError) → (e ≢ Memory → refusal (staged_book old) edit ≡ Some e) → (e ≡ Memory → refusal (staged_book old) edit ≡ None) → new ≡ old → Says (refused_text (edit_code e)) → StepTo
  refused_step e refused memory unchanged said =
      ⊎_elim
      (λ is. short (memory is) unchanged (rw is at said))
      (λ other. refused_edit e (refused other) unchanged said)
      (memory_or_other e)

module _ (line : Text) (old new : DeskSeen) (reply : Reply) where
  -- all that is pending is published
  pub committed_step : new ≡ with_committed old → (edition : ℕ) → edition ≡ length new.published → reply ≡ record { text = desk_text (Committed edition); is_internal_error = false }
      → IsJudged (desk_terms old.limits) (lists_of old) line (Some (Ok Commit)) reply (lists_of new)
  committed_step changed edition counted said = record {
    step = record {
      mark = Unmarked;
      may_have = tt;
      text_is = ap (λ (r : Reply). r.text) said ∙ ap (λ n. desk_text (Committed n)) (counted ∙ ap (λ (d : DeskSeen). length d.published) changed);
      memory_is = ap (λ (r : Reply). r.is_internal_error) said;
      lists_are = ap lists_of changed ∙ ap (λ es. record { accepted = es; published = old.published ++ old.pending }) (append-nil (old.published ++ old.pending));
    };
    was_read = λ is. absurd (cc);
  }

  -- there is no memory for it
  pub uncommitted_step : new ≡ old → reply ≡ record { text = refused_text 20; is_internal_error = false } → IsJudged (desk_terms old.limits) (lists_of old) line (Some (Ok Commit)) reply (lists_of new)
  uncommitted_step unchanged said = short_step line old new (Some (Ok Commit)) reply tt unchanged said

  -- with nothing pending the edition stays
  pub committed_nothing : new ≡ with_committed old → (edition : ℕ) → edition ≡ length new.published → old.pending ≡ []
      → reply ≡ record { text = desk_text (Committed edition); is_internal_error = false }
      → reply ≡ record { text = desk_text (Committed (length old.published)); is_internal_error = false }
  committed_nothing changed edition counted none said =
      let all : new.published ≡ old.published = ap (λ (d : DeskSeen). d.published) changed ∙ ap (λ es. old.published ++ es) none ∙ append-nil old.published in
      said ∙ ap (λ n. record { text = desk_text (Committed n); is_internal_error = false }) (counted ∙ ap length all)
