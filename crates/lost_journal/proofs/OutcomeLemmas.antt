-- What a crash leaves of a journal, before and after its calls.
use Rattle.std.proofs.Common.{◌≡◌, ◌⊎◌, inl, inr, ⊎_elim, ℕ, ◌+◌, ◌-◌, IsTrue, ◌≤◌, [], ◌∷◌, ◌++◌, append_assoc, arith, length, slice_index, take, drop, refl, sym, ◌∙◌, ap, subst}
use Rattle.lost_spec.specs.Text.{Text}
use Rattle.sqlite_disk.specs.declared.Disk.{Ghosts}
use Rattle.sqlite_disk.specs.Disk.{Only}
use Rattle.lost_journal.specs.declared.gate.Gate.{Gate}
use Rattle.lost_journal.specs.declared.gate.Gate.TheVariants.{Closed, Unsure}
use Rattle.lost_journal.specs.declared.journal.Journal.{Journal}
use Rattle.lost_journal.specs.Format.{Keeps, IsTornAfter, with_gate, with_commit, opened, closed}
use Rattle.lost_journal.specs.Seen.{disk_of, is_clean, IsClean, bytes_of, MayLeave, body_of, behind_of, pending_of, doubtful_of, gate_of, MayKeep, SamePlaces, StaysBelow, StaysBeside, IsPut}
use Rattle.lost_journal.specs.State.{IsSettled}
use Rattle.lost_journal.proofs.SettledLemmas.{IsKept, unsure_outcome, take_front, settled_kept}
use Rattle.std.proofs.lemmas.List.{drop-take, length-append}

pub gate_cases : (k : Gate) → (k ≡ Closed) ⊎ (k ≡ Unsure)
gate_cases Closed = inl refl
gate_cases Unsure = inr refl

module _ {D : Type 0} {g : Ghosts D} where
  pub outcome : (j : Journal D g) → IsClean j → (c : Text) → MayLeave j c → MayKeep j c
  outcome j clean c may = ⊎_elim
      (λ shut. inl (((j.settled clean).if_closed shut).leaves c may))
      (λ unsure. ⊎_elim (λ keeps. inl keeps) (λ other. inr (unsure, other)) (unsure_outcome (g.seen j.disk) (g.may_leave j.disk) j.kept j.before j.end j.tail j.gate unsure (j.settled clean) c may))
      (gate_cases j.gate)

  -- what is kept if an unsure gate is open
  pub same_doubt : (old new : Journal D g) → StaysBeside old new → doubtful_of new ≡ doubtful_of old
  same_doubt old new stays = ap (λ (l : Text). with_gate l opened ++ take (length (behind_of new) - 2) (behind_of new)) stays.body ∙ ap (λ (l : Text). with_gate (body_of old) opened ++ take (length l - 2) l) stays.behind

  -- what is kept is the same, and so is all behind it
  pub beside_outcome : (old new : Journal D g) → new.gate ≡ old.gate → StaysBeside old new → (c : Text) → MayKeep new c → MayKeep old c
  beside_outcome old new same stays c may = ⊎_elim
      (λ keeps. inl (subst (Keeps c) stays.body keeps))
      (λ other. inr (sym same ∙ other.0, ⊎_elim (λ all. inl (subst (Keeps c) (same_doubt old new stays) all)) (λ torn. inr (subst (IsTornAfter c) stays.body torn)) other.1))
      may

  -- with a closed gate, what is kept is kept
  pub closed_outcome : (old new : Journal D g) → new.gate ≡ Closed → body_of new ≡ body_of old → (c : Text) → MayKeep new c → MayKeep old c
  closed_outcome old new shut same c may = ⊎_elim (λ keeps. inl (subst (Keeps c) same keeps)) (λ other. cc_of other.0) may
    where
      cc_of : new.gate ≡ Unsure → MayKeep old c
      cc_of unsure = cc

  -- places that are the same, over the same bytes
  pub still : (old new : Journal D g) → SamePlaces old new → bytes_of new ≡ bytes_of old → StaysBeside old new × StaysBelow old new
  still old new same bytes = (
    record { body = body; behind = behind },
    record {
      body = body;
      pending = ap (λ (e : ℕ). take (e - new.kept) (behind_of new)) same.end ∙ ap (λ (k : ℕ). take (old.end - k) (behind_of new)) same.kept ∙ ap (λ (l : Text). take (old.end - old.kept) l) behind;
      earlier = ap (λ (e : ℕ). take (e - new.kept) (behind_of new)) same.before ∙ ap (λ (k : ℕ). take (old.before - k) (behind_of new)) same.kept ∙ ap (λ (l : Text). take (old.before - old.kept) l) behind;
    },
  )
    where
      body : body_of new ≡ body_of old
      body = ap (λ (k : ℕ). take (k - 2) (bytes_of new)) same.kept ∙ ap (λ (l : Text). take (old.kept - 2) l) bytes

      behind : behind_of new ≡ behind_of old
      behind = ap (λ (k : ℕ). drop k (bytes_of new)) same.kept ∙ ap (λ (l : Text). drop old.kept l) bytes

  pub beside_again : (a b c : Journal D g) → StaysBeside a b → StaysBeside b c → StaysBeside a c
  beside_again a b c first second = record { body = second.body ∙ first.body; behind = second.behind ∙ first.behind }

  -- what stands behind the last gate once a commit's line was put there, the rest cut off, and all flushed
  pub stood : (old p q n : Journal D g) (text : Text) (after : ℕ) → SamePlaces old p → SamePlaces p q → SamePlaces q n → IsPut old p text → after ≡ p.end + length text
      → bytes_of q ≡ take after (bytes_of p) → bytes_of n ≡ bytes_of q → old.kept ≤ after → behind_of n ≡ pending_of old ++ text
  stood old p q n text after first second third put is cut same less =
      let kept : n.kept ≡ old.kept = third.kept ∙ second.kept ∙ first.kept in
      let whole : old.kept + (after - old.kept) ≡ after = omega arith in
      ap (λ (k : ℕ). drop k (bytes_of n)) kept
      ∙ ap (λ (l : Text). drop old.kept l) (same ∙ cut)
      ∙ ap (λ (m : ℕ). drop old.kept (take m (bytes_of p))) (sym whole)
      ∙ drop-take old.kept (after - old.kept) (bytes_of p)
      ∙ ap (λ (k : ℕ). take (after - k) (drop k (bytes_of p))) (sym first.kept)
      ∙ ap (λ (m : ℕ). take (m - p.kept) (drop p.kept (bytes_of p))) is
      ∙ put.written

  -- with a commit behind the gate, what is kept if it is open
  pub doubt_is : (j : Journal D g) (body edits commit : Text) → body_of j ≡ body → behind_of j ≡ edits ++ with_gate commit closed → doubtful_of j ≡ with_commit body edits commit
  doubt_is j body edits commit same behind =
      ap (λ (l : Text). with_gate l opened ++ take (length (behind_of j) - 2) (behind_of j)) same
      ∙ ap (λ (l : Text). with_gate body opened ++ l) (take_front (behind_of j) (edits ++ commit) closed 10 (behind ∙ sym (append_assoc edits commit (closed ∷ 10 ∷ []))))

  -- once the gate is open on the disk, the commit behind it is kept
  pub passed_gate : (old mid new : Journal D g) (after : ℕ) → old.gate ≡ Unsure → SamePlaces old mid → SamePlaces mid new → StaysBeside old mid
      → bytes_of mid ≡ body_of old ++ opened ∷ 10 ∷ behind_of old → bytes_of new ≡ bytes_of mid → Only (bytes_of mid) (MayLeave new)
      → IsClean old → IsClean new → after ≡ length (bytes_of old) → 2 ≤ after → IsKept (bytes_of new) (MayLeave new) new.kept after new.tail × (doubtful_of new ≡ doubtful_of old)
  passed_gate old mid new after unsure first second beside written seen only clean clean_now all least =
      let same = beside_again old mid new beside (still mid new second seen).0 in
      let is : bytes_of new ≡ body_of new ++ opened ∷ 10 ∷ behind_of new =
      seen ∙ written ∙ ap (λ (l : Text). l ++ opened ∷ 10 ∷ behind_of old) (sym same.body) ∙ ap (λ (l : Text). body_of new ++ opened ∷ 10 ∷ l) (sym same.behind) in
      let x = slice_index (bytes_of old) (old.kept - 2) in
      let now : length (bytes_of new) ≡ length (body_of old) + length (opened ∷ 10 ∷ behind_of old) = ap length (seen ∙ written) ∙ length-append (body_of old) (opened ∷ 10 ∷ behind_of old) in
      let then : length (bytes_of old) ≡ length (body_of old) + length (x ∷ 10 ∷ behind_of old) = ap length ((old.settled clean).if_unsure unsure).gate ∙ length-append (body_of old) (x ∷ 10 ∷ behind_of old) in
      let durable : Only (bytes_of new) (MayLeave new) = subst (λ (l : Text). Only l (MayLeave new)) (sym seen) only in (
        settled_kept (bytes_of new) (MayLeave new) new.kept new.before new.end new.tail new.gate (second.gate ∙ first.gate ∙ unsure) (new.settled clean_now) durable is after (omega arith) least,
        same_doubt old new same,
      )
