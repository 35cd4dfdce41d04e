-- What a crash leaves begins with what was published.
use Rattle.std.proofs.Common.{◌≡◌, ◌≢◌, ◌⊎◌, inl, inr, ⊎_elim, ℕ, ◌-◌, Bool, true, false, List, [], ◌∷◌, ◌++◌, length, take, Option, None, Some, Result, Ok, Err, is_none, refl, sym, ◌∙◌, ap, subst, arith, append_assoc, append-nil}
use Rattle.sqlite_disk.specs.declared.Disk.{Ghosts}
use Rattle.lost_spec.specs.Text.{Text}
use Rattle.lost_spec.specs.Book.{Limits, Edit, refusal}
use Rattle.lost_spec.specs.Laws.{BeginsWith}
use Rattle.lost_lines.specs.Cutting.{newline, cut, ended_lines, last_piece}
use Rattle.lost_lines.proofs.CuttingLemmas.{ended_lines-append}
use Rattle.lost_reading.specs.declared.desk.DeskFault.{DeskFault}
use Rattle.lost_reading.specs.Desk.{Order, Stage, Commit, desk_line}
use Rattle.lost_json.specs.Stream.{Terms, Lists, keep, book}
use Rattle.lost_json.specs.Step.{lists_after}
use Rattle.lost_desk.specs.Seen.{DeskSeen}
use Rattle.lost_worker.specs.Desking.{desk_terms}
use Rattle.lost_journal.specs.declared.gate.Gate.TheVariants.{Closed, Unsure}
use Rattle.lost_journal.specs.Format.{IsBody, IsTornAfter, Keeps, opened, closed, with_gate}
use Rattle.lost_journal.specs.Seen.{MayLeave, MayKeep, IsClean, body_of, behind_of, doubtful_of}
use Rattle.lost_journal.proofs.BodyLemmas.{cut-gate}
use Rattle.lost_journal.proofs.OutcomeLemmas.{outcome}
use Rattle.lost_keeping.specs.declared.keeper.Keeper.{Keeper}
use Rattle.lost_keeping.specs.Keepers.{journal_of, IsCleanKeeper, IsKept}
use Rattle.lost_keeping.specs.Kept.{lists_through, all_published, lists_of_text, lists_kept, OrdersCommit, IsKeptFor}
use Rattle.lost_keeping.specs.Recovery.{IsRecovered}
use Rattle.lost_keeping.proofs.KeptLemmas.{lists_through-append, same_by_gate}
use Rattle.lost_durability.specs.Survival.{Survives}
use Rattle.lost_durability.proofs.UniqueLemmas.{one_body}

-- both lists begin with these edits
record Begin (edits : List Edit) (l : Lists) : Type 0 where
  accepted : BeginsWith l.accepted edits
  published : BeginsWith l.published edits

more_edits : (edits : List Edit) (xs : List Edit) (e : Edit) → BeginsWith xs edits → BeginsWith (xs ++ e ∷ []) edits
more_edits edits xs e b = (b.0 ++ e ∷ [], ap (λ (l : List Edit). l ++ e ∷ []) b.1 ∙ append_assoc edits b.0 (e ∷ []))

kept_or_not : (terms : Terms) (edits xs : List Edit) (e : Edit) (r : Bool) → is_none (refusal (book terms xs) e) ≡ r → BeginsWith xs edits → BeginsWith (keep terms xs e) edits
kept_or_not terms edits xs e true is b = subst (λ (l : List Edit). BeginsWith l edits) (sym (rw is refl)) (more_edits edits xs e b)
kept_or_not terms edits xs e false is b = subst (λ (l : List Edit). BeginsWith l edits) (sym (rw is refl)) b

begin_after : (terms : Terms) (edits : List Edit) (l : Lists) (order : Option (Result Order DeskFault)) → Begin edits l → Begin edits (lists_after terms l order)
begin_after terms edits l None b = b
begin_after terms edits l (Some (Err fault)) b = b
begin_after terms edits l (Some (Ok (Stage e))) b = record { accepted = kept_or_not terms edits l.accepted e (is_none (refusal (book terms l.accepted) e)) refl b.accepted; published = b.published }
begin_after terms edits l (Some (Ok Commit)) b = record { accepted = b.accepted; published = b.accepted }

begin_through : (terms : Terms) (edits : List Edit) (l : Lists) (lines : List Text) → Begin edits l → Begin edits (lists_through terms l lines)
begin_through terms edits l [] b = b
begin_through terms edits l (line ∷ lines) b = begin_through terms edits (lists_after terms l (desk_line line)) lines (begin_after terms edits l (desk_line line) b)

all_begin : (edits : List Edit) → Begin edits (all_published edits)
all_begin edits = record { accepted = ([], sym (append-nil edits)); published = ([], sym (append-nil edits)) }

-- what is kept with more behind an open gate
more_begins : (limits : Limits) (body rest : Text) (edits : List Edit) → OrdersCommit (last_piece body) → lists_kept limits body ≡ all_published edits
    → BeginsWith (lists_kept limits (with_gate body opened ++ rest)).published edits
more_begins limits body rest edits says kept =
    let terms = desk_terms limits in
    let more = rest ++ closed ∷ newline ∷ [] in
    let text : with_gate (with_gate body opened ++ rest) closed ≡ with_gate body opened ++ more = append_assoc (with_gate body opened) rest (closed ∷ newline ∷ []) in
    let front = ended_lines body ++ (last_piece body ++ opened ∷ []) ∷ [] in
    let cuts = cut-gate body opened (λ same. omega arith) in
    let lines : ended_lines (with_gate body opened ++ more) ≡ front ++ ended_lines more = ended_lines-append (with_gate body opened) more front [] cuts in
    let first : lists_through terms (all_published []) front ≡ all_published edits =
    ap (λ (p : List Text × Text). lists_through terms (all_published []) p.0) (sym cuts) ∙ same_by_gate limits body says ∙ kept in
    let whole : lists_kept limits (with_gate body opened ++ rest) ≡ lists_through terms (all_published edits) (ended_lines more) =
    ap (λ (t : Text). lists_through terms (all_published []) (ended_lines t)) text
    ∙ ap (lists_through terms (all_published [])) lines
    ∙ lists_through-append terms (all_published []) front (ended_lines more)
    ∙ ap (λ (l : Lists). lists_through terms l (ended_lines more)) first in
    subst (λ (l : Lists). BeginsWith l.published edits) (sym whole) (begin_through terms edits (all_published edits) (ended_lines more) (all_begin edits)).published

begins_again : (xs ys zs : List Edit) → BeginsWith xs ys → BeginsWith ys zs → BeginsWith xs zs
begins_again xs ys zs a b = (b.0 ++ a.0, a.1 ∙ ap (λ (l : List Edit). l ++ a.0) b.1 ∙ append_assoc zs b.0 a.0)

module _ {D : Type 0} {g : Ghosts D} where
  pub survives : (k : Keeper D g) (before : DeskSeen) → IsCleanKeeper k → IsKept k before → (after : DeskSeen) → Survives k before after
  survives k before clean kept after c may limits again =
      let j = journal_of k in
      let s = j.settled clean in
      let now : lists_kept before.limits again.body ≡ all_published after.published = ap (λ (m : Limits). lists_kept m again.body) (sym limits) ∙ again.published in
      ⊎_elim
      (λ keeps.
      let same = one_body c (body_of j) again.body s.body again.is_body keeps again.keeps in
      let edits : all_published kept.edits ≡ all_published after.published = sym kept.kept ∙ ap (lists_kept before.limits) same ∙ now in
      inr (subst (λ (l : List Edit). BeginsWith l before.published) (ap (λ (l : Lists). l.published) edits) kept.begins))
      (λ other. ⊎_elim
      (λ all.
      let same = one_body c (doubtful_of j) again.body (s.if_unsure other.0).whole again.is_body all again.keeps in
      let more = more_begins before.limits (body_of j) (take (length (behind_of j) - 2) (behind_of j)) kept.edits kept.commits kept.kept in
      let published : (lists_kept before.limits (doubtful_of j)).published ≡ after.published = ap (λ (l : Lists). l.published) (ap (lists_kept before.limits) same ∙ now) in
      inr (begins_again after.published kept.edits before.published (subst (λ (l : List Edit). BeginsWith l kept.edits) published more) kept.begins))
      (λ torn. inl torn)
      other.1)
      (outcome j clean c may)
