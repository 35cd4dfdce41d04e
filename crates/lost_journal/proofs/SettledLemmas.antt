-- How the calls of a disk leave a journal settled.
use Rattle.std.proofs.Common.{◌≡◌, ◌≢◌, ◌⊎◌, inl, inr, ℕ, ◌+◌, ◌-◌, ◌<◌, ◌≤◌, Bool, true, false, IsTrue, List, [], ◌∷◌, ◌++◌, length, take, drop, get_or, slice_index, All, sym, refl, ◌∙◌, ap, subst, arith, append_assoc, take-append-drop, ext_get_or, get_or-take, get_or-drop}
use Rattle.std.proofs.lemmas.List.{take_all, drop_more, drop-take, length-take-le, length-take, length-drop, length-append}
use Rattle.std.proofs.lemmas.Bool.{cases_eq}
use Rattle.std.proofs.Math.Seq.{take-add, take-append-add, take-append_seam, drop-append-add, get_or-append_seam}
use Rattle.sqlite_disk.specs.Disk.{Holds, Torn, Cut, Follows, Only}
use Rattle.lost_spec.specs.Text.{Text}
use Rattle.lost_journal.specs.declared.gate.Gate.{Gate}
use Rattle.lost_journal.specs.declared.gate.Gate.TheVariants.{Closed, Unsure}
use Rattle.lost_journal.specs.Format.{IsBody, AreEdits, is_commit, closed, opened, with_gate, with_commit, HasGate, Keeps, IsTornAfter}
use Rattle.lost_journal.specs.State.{body_in, behind_in, pending_in, doubtful_in, IsGated, IsClosed, IsUnsure, IsSettled}
use Rattle.lost_lines.specs.Cutting.{newline}
use Rattle.lost_journal.proofs.BodyLemmas.{body_grows, no_edits}
use Rattle.lost_journal.proofs.FrontLemmas.{front_of_torn, front_of_cut, shorter_front, same_pending, front_to_gate, with_front, longer_than_gate, torn_byte}

-- what is the same while only what stands behind the edits changes
pub record SameFront (seen seen' : Text) (kept before end : ℕ) : Type 0 where
  pub body : body_in seen' kept ≡ body_in seen kept
  pub pending : pending_in seen' kept end ≡ pending_in seen kept end
  pub earlier : pending_in seen' kept before ≡ pending_in seen kept before

pub same_front : (seen seen' : Text) (kept before end : ℕ) → kept ≤ before → before ≤ end → take end seen' ≡ take end seen → SameFront seen seen' kept before end
same_front seen seen' kept before end first order same = record {
  body = shorter_front (kept - 2) end seen' seen (omega arith) same;
  pending = same_pending kept end seen' seen (omega arith) same;
  earlier = same_pending kept before seen' seen first (shorter_front before end seen' seen order same);
}

-- with a closed gate, a change behind the edits leaves the journal settled
settled_behind : (seen seen' : Text) (ml ml' : Text → Type 0) (kept before end tail tail' : ℕ) (gate : Gate) → gate ≡ Closed
    → IsSettled seen ml kept before end tail gate
    → take end seen' ≡ take end seen → end ≤ length seen' → length seen' ≤ tail'
    → ((c : Text) → ml' c → (d : Text) × ml d × ((m : ℕ) → m ≤ end → m ≤ length d → take m c ≡ take m d))
    → IsSettled seen' ml' kept before end tail' gate
settled_behind seen seen' ml ml' kept before end tail tail' gate shut s same within fits follows =
    let first = s.first in
    let order = s.order in
    let least = s.least in
    let inside = s.within in
    let f = same_front seen seen' kept before end first order same in
    let old = s.if_closed shut in
    let long : length (body_in seen kept) ≡ kept - 2 = length-take-le (kept - 2) seen (omega arith) in
    let there : length (body_in seen kept) + 2 ≡ kept = omega arith in
    let now : Keeps seen' (body_in seen kept) = shorter_front (length (body_in seen kept) + 2) end seen' seen (omega arith) same ∙ old.gate in
    let left : (c : Text) → ml' c → Keeps c (body_in seen kept) = λ c is.
    let from = follows c is in
    let kept_there = old.leaves from.0 from.1 in
    from.2 (length (body_in seen kept) + 2) (omega arith) (longer_than_gate closed from.0 (body_in seen kept) kept_there) ∙ kept_there in
    record {
      least = least;
      first = first;
      order = order;
      within = within;
      fits = fits;
      body = subst IsBody (sym f.body) s.body;
      pending = subst AreEdits (sym f.pending) s.pending;
      earlier = subst AreEdits (sym f.earlier) s.earlier;
      if_closed = λ is. record {
        gate = subst (Keeps seen') (sym f.body) now;
        leaves = λ c may. subst (Keeps c) (sym f.body) (left c may);
      };
      if_unsure = λ is. cc;
    }

-- a write behind the edits
pub settled_put : (seen seen' : Text) (ml ml' : Text → Type 0) (kept before end tail tail' n : ℕ) (gate : Gate) → gate ≡ Closed
    → IsSettled seen ml kept before end tail gate
    → Torn end n seen seen' → Follows (Torn end n) ml ml' → tail ≤ tail' → end + n ≤ tail'
    → IsSettled seen' ml' kept before end tail' gate
settled_put seen seen' ml ml' kept before end tail tail' n gate shut s torn follows more room =
    let inside = s.within in
    let fits = s.fits in
    let longer = torn.no_shorter in
    let shorter = torn.no_longer in
    settled_behind seen seen' ml ml' kept before end tail tail' gate shut s
    (front_of_torn end n end seen seen' torn (omega arith) inside) (omega arith) (omega arith)
    (λ c is. let from = follows c is in (from.0, from.1, λ m low high. front_of_torn end n m from.0 c from.2 low high))

-- a cut behind the edits
pub settled_cut : (seen seen' : Text) (ml ml' : Text → Type 0) (kept before end tail tail' n : ℕ) (gate : Gate) → gate ≡ Closed
    → IsSettled seen ml kept before end tail gate
    → Cut n seen seen' → Follows (Cut n) ml ml' → end ≤ n → n ≤ length seen → length seen' ≤ tail'
    → IsSettled seen' ml' kept before end tail' gate
settled_cut seen seen' ml ml' kept before end tail tail' n gate shut s cut follows behind less short =
    let inside = s.within in
    let fits = s.fits in
    let longer = cut.no_shorter in
    settled_behind seen seen' ml ml' kept before end tail tail' gate shut s
    (front_of_cut n end seen seen' cut behind inside) (omega arith) short
    (λ c is. let from = follows c is in (from.0, from.1, λ m low high. front_of_cut n m from.0 c from.2 (omega arith) high))

-- fewer outcomes of a crash
pub settled_flush : (seen seen' : Text) (ml ml' : Text → Type 0) (kept before end tail : ℕ) (gate : Gate)
    → IsSettled seen ml kept before end tail gate → seen' ≡ seen → ((c : Text) → ml' c → ml c)
    → IsSettled seen' ml' kept before end tail gate
settled_flush seen seen' ml ml' kept before end tail gate s same fewer =
    subst (λ (bytes : Text). IsSettled bytes ml' kept before end tail gate) (sym same) (record {
      least = s.least;
      first = s.first;
      order = s.order;
      within = s.within;
      fits = s.fits;
      body = s.body;
      pending = s.pending;
      earlier = s.earlier;
      if_closed = λ is. let old = s.if_closed is in record { gate = old.gate; leaves = λ c may. old.leaves c (fewer c may) };
      if_unsure = λ is. let old = s.if_unsure is in record { gate = old.gate; whole = old.whole; ends = old.ends; leaves = λ c may. old.leaves c (fewer c may) };
    })

-- bytes that were written behind the edits
pub put_written : (seen seen' bytes : Text) (kept end : ℕ) → kept ≤ end → take end seen' ≡ take end seen → Holds seen' end bytes
    → pending_in seen' kept (end + length bytes) ≡ pending_in seen kept end ++ bytes
put_written seen seen' bytes kept end less same holds =
    let n = length bytes in
    let within = holds.within in
    let rest = drop (end - kept) (drop kept seen') in
    let split : end + n - kept ≡ end - kept + n = omega arith in
    let inner : length (drop kept seen') ≡ length seen' - kept = length-drop kept seen' in
    let outer : length rest ≡ length (drop kept seen') - (end - kept) = length-drop (end - kept) (drop kept seen') in
    let long : length (take n rest) ≡ n = length-take-le n rest (omega arith) in
    let there : take n rest ≡ bytes = ext_get_or 0 (take n rest) bytes (long ∙ refl) (λ i h.
    let low : i < n = omega arith in
    let place : kept + (end - kept + i) ≡ end + i = omega arith in
    get_or-take n rest i 0 low ∙ get_or-drop (end - kept) (drop kept seen') i 0 ∙ get_or-drop kept seen' (end - kept + i) 0 ∙ ap (λ (k : ℕ). get_or seen' k 0) place ∙ holds.each i low) in
    ap (λ (k : ℕ). take k (drop kept seen')) split
    ∙ take-add (end - kept) n (drop kept seen')
    ∙ ap (λ (l : Text). l ++ take n rest) (same_pending kept end seen' seen less same)
    ∙ ap (λ (l : Text). pending_in seen kept end ++ l) there

-- a file of a body, a gate and what stands behind it
gated : (file body behind : Text) (y kept : ℕ) → length body ≡ kept - 2 → file ≡ body ++ y ∷ 10 ∷ behind → IsGated body kept behind file
gated file body behind y kept long is =
    let there : slice_index file (kept - 2) ≡ y = ap (λ (l : Text). get_or l (kept - 2) 0) is ∙ ap (λ (n : ℕ). get_or (body ++ y ∷ 10 ∷ behind) n 0) (sym long) ∙ get_or-append_seam body y (10 ∷ behind) 0 in
    is ∙ ap (λ (g : ℕ). body ++ g ∷ 10 ∷ behind) (sym there)

-- what such a file has
front_of_gated : (file body behind : Text) (y kept : ℕ) → length body ≡ kept - 2 → file ≡ body ++ y ∷ 10 ∷ behind → take (kept - 2) file ≡ body
front_of_gated file body behind y kept long is =
    ap (λ (l : Text). take (kept - 2) l) is ∙ ap (λ (n : ℕ). take n (body ++ y ∷ 10 ∷ behind)) (sym long) ∙ take-append_seam body (y ∷ 10 ∷ behind)

rest_of_gated : (file body behind : Text) (y kept : ℕ) → 2 ≤ kept → length body ≡ kept - 2 → file ≡ body ++ y ∷ 10 ∷ behind → drop kept file ≡ behind
rest_of_gated file body behind y kept least long is =
    let there : kept ≡ length body + 2 = omega arith in
    ap (λ (l : Text). drop kept l) is ∙ ap (λ (n : ℕ). drop n (body ++ y ∷ 10 ∷ behind)) there ∙ drop-append-add body (y ∷ 10 ∷ behind) 2

-- what a write of the gate leaves: the body and what stands behind it
pub record SameBeside (seen seen' : Text) (kept : ℕ) : Type 0 where
  pub body : body_in seen' kept ≡ body_in seen kept
  pub behind : behind_in seen' kept ≡ behind_in seen kept
  pub same_length : length seen' ≡ length seen

gate_torn : (seen c body behind : Text) (kept : ℕ) → length body ≡ kept - 2 → IsGated body kept behind seen → Torn (kept - 2) 1 seen c → (y : ℕ) × (c ≡ body ++ y ∷ 10 ∷ behind)
gate_torn seen c body behind kept long is torn =
    torn_byte body (10 ∷ behind) c (slice_index seen (kept - 2)) (subst (λ (n : ℕ). Torn n 1 (body ++ slice_index seen (kept - 2) ∷ 10 ∷ behind) c) (sym long) (subst (λ (l : Text). Torn (kept - 2) 1 l c) is torn))

body_length : (seen : Text) (kept : ℕ) → kept ≤ length seen → length (body_in seen kept) ≡ kept - 2
body_length seen kept within = length-take-le (kept - 2) seen (omega arith)

module _ (seen : Text) (ml : Text → Type 0) (kept before end tail : ℕ) (gate : Gate) (unsure : gate ≡ Unsure) where
  pub beside : (seen' : Text) → IsSettled seen ml kept before end tail gate → Torn (kept - 2) 1 seen seen' → SameBeside seen seen' kept
  beside seen' s torn =
      let first = s.first in
      let order = s.order in
      let within = s.within in
      let long = body_length seen kept (omega arith) in
      let old = s.if_unsure unsure in
      let new = gate_torn seen seen' (body_in seen kept) (behind_in seen kept) kept long old.gate torn in
      let same : length seen' ≡ length seen = ap length new.1 ∙ length-append (body_in seen kept) (new.0 ∷ 10 ∷ behind_in seen kept) ∙ sym (ap length old.gate ∙ length-append (body_in seen kept) (slice_index seen (kept - 2) ∷ 10 ∷ behind_in seen kept)) in
      record {
        body = front_of_gated seen' (body_in seen kept) (behind_in seen kept) new.0 kept long new.1;
        behind = rest_of_gated seen' (body_in seen kept) (behind_in seen kept) new.0 kept s.least long new.1;
        same_length = same;
      }

  -- a write of the gate
  pub settled_gate : (seen' : Text) (ml' : Text → Type 0) → IsSettled seen ml kept before end tail gate → Torn (kept - 2) 1 seen seen' → Follows (Torn (kept - 2) 1) ml ml'
      → IsSettled seen' ml' kept before end tail gate
  settled_gate seen' ml' s torn follows =
      let first = s.first in
      let order = s.order in
      let within = s.within in
      let fits = s.fits in
      let long = body_length seen kept (omega arith) in
      let old = s.if_unsure unsure in
      let b = beside seen' s torn in
      let new = gate_torn seen seen' (body_in seen kept) (behind_in seen kept) kept long old.gate torn in
      let same_length = b.same_length in
      record {
        least = s.least;
        first = first;
        order = order;
        within = omega arith;
        fits = omega arith;
        body = subst IsBody (sym b.body) s.body;
        pending = subst (λ (l : Text). AreEdits (take (end - kept) l)) (sym b.behind) s.pending;
        earlier = subst (λ (l : Text). AreEdits (take (before - kept) l)) (sym b.behind) s.earlier;
        if_closed = λ is. cc;
        if_unsure = λ is. record {
          gate = subst (λ (l : Text). IsGated l kept (behind_in seen' kept) seen') (sym b.body) (subst (λ (l : Text). IsGated (body_in seen kept) kept l seen') (sym b.behind) (gated seen' (body_in seen kept) (behind_in seen kept) new.0 kept long new.1));
          whole = subst IsBody (sym (same_doubt b)) old.whole;
          ends = subst (λ (l : Text). l ≡ with_gate (take (length l - 2) l) closed) (sym b.behind) old.ends;
          leaves = λ c may. left b long old follows c may;
        };
      }
    where
      same_doubt : SameBeside seen seen' kept → doubtful_in seen' kept ≡ doubtful_in seen kept
      same_doubt b = ap (λ (l : Text). with_gate l opened ++ take (length (behind_in seen' kept) - 2) (behind_in seen' kept)) b.body ∙ ap (λ (l : Text). with_gate (body_in seen kept) opened ++ take (length l - 2) l) b.behind

      left : SameBeside seen seen' kept → length (body_in seen kept) ≡ kept - 2 → IsUnsure seen ml kept → Follows (Torn (kept - 2) 1) ml ml' → (c : Text) → ml' c → IsGated (body_in seen' kept) kept (behind_in seen' kept) c
      left b long old follows c may =
          let from = follows c may in
          let torn_there = gate_torn from.0 c (body_in seen kept) (behind_in seen kept) kept long (old.leaves from.0 from.1) from.2 in
          subst (λ (l : Text). IsGated l kept (behind_in seen' kept) c) (sym b.body) (subst (λ (l : Text). IsGated (body_in seen kept) kept l c) (sym b.behind) (gated c (body_in seen kept) (behind_in seen kept) torn_there.0 kept long torn_there.1))

  -- what a file with this gate has
  pub gate_written : (seen' : Text) (g : ℕ) → IsSettled seen ml kept before end tail gate → Torn (kept - 2) 1 seen seen' → Holds seen' (kept - 2) (g ∷ []) → seen' ≡ body_in seen kept ++ g ∷ 10 ∷ behind_in seen kept
  gate_written seen' g s torn holds =
      let first = s.first in
      let order = s.order in
      let within = s.within in
      let long = body_length seen kept (omega arith) in
      let old = s.if_unsure unsure in
      let new = gate_torn seen seen' (body_in seen kept) (behind_in seen kept) kept long old.gate torn in
      let at : slice_index seen' (kept - 2) ≡ new.0 = ap (λ (l : Text). get_or l (kept - 2) 0) new.1 ∙ ap (λ (n : ℕ). get_or (body_in seen kept ++ new.0 ∷ 10 ∷ behind_in seen kept) n 0) (sym long) ∙ get_or-append_seam (body_in seen kept) new.0 (10 ∷ behind_in seen kept) 0 in
      let here : kept - 2 + 0 ≡ kept - 2 = omega arith in
      let is : slice_index seen' (kept - 2) ≡ g = ap (λ (n : ℕ). get_or seen' n 0) (sym here) ∙ holds.each 0 (omega arith) in
      new.1 ∙ ap (λ (y : ℕ). body_in seen kept ++ y ∷ 10 ∷ behind_in seen kept) (sym at ∙ is)

  -- the gate is closed again, on the disk too
  pub settled_closed : IsSettled seen ml kept before end tail gate → seen ≡ body_in seen kept ++ closed ∷ 10 ∷ behind_in seen kept → Only seen ml → IsSettled seen ml kept before end tail Closed
  settled_closed s is only =
      let first = s.first in
      let order = s.order in
      let within = s.within in
      let least = s.least in
      let long = body_length seen kept (omega arith) in
      let there : length (body_in seen kept) + 2 ≡ kept = omega arith in
      let keeps : Keeps seen (body_in seen kept) = ap (λ (l : Text). take (length (body_in seen kept) + 2) l) is ∙ take-append-add (body_in seen kept) (closed ∷ 10 ∷ behind_in seen kept) 2 in
      record {
        least = least;
        first = first;
        order = order;
        within = within;
        fits = s.fits;
        body = s.body;
        pending = s.pending;
        earlier = s.earlier;
        if_closed = λ same. record { gate = keeps; leaves = λ c may. subst (λ (l : Text). Keeps l (body_in seen kept)) (sym (only c may)) keeps };
        if_unsure = λ same. cc;
      }

  -- what a crash leaves while the gate is unsure
  pub unsure_outcome : IsSettled seen ml kept before end tail gate → (c : Text) → ml c → Keeps c (body_in seen kept) ⊎ (Keeps c (doubtful_in seen kept) ⊎ IsTornAfter c (body_in seen kept))
  unsure_outcome s c may =
      let first = s.first in
      let order = s.order in
      let within = s.within in
      let u = s.if_unsure unsure in
      let body = body_in seen kept in
      let y = slice_index c (kept - 2) in
      let is = u.leaves c may in
      let has : HasGate y c body = ap (λ (l : Text). take (length body + 2) l) is ∙ take-append-add body (y ∷ 10 ∷ behind_in seen kept) 2 in
      elim (cases_eq y closed) [
        | inl shut ↦ inl (has ∙ ap (λ (g : ℕ). with_gate body g) shut)
        | inr not_shut ↦ elim (cases_eq y opened) [
          | inl wide ↦ inr (inl (all wide u.ends is))
          | inr not_wide ↦ inr (inr (record { gate = y; not_closed = not_shut; not_open = not_wide; stands = has }))
        ]
      ]
    where
      all : slice_index c (kept - 2) ≡ opened → behind_in seen kept ≡ with_gate (take (length (behind_in seen kept) - 2) (behind_in seen kept)) closed → IsGated (body_in seen kept) kept (behind_in seen kept) c → Keeps c (doubtful_in seen kept)
      all wide ends is =
          let body = body_in seen kept in
          let x = take (length (behind_in seen kept) - 2) (behind_in seen kept) in
          let front : c ≡ body ++ (opened ∷ 10 ∷ (x ++ closed ∷ 10 ∷ [])) = is ∙ ap (λ (g : ℕ). body ++ g ∷ 10 ∷ behind_in seen kept) wide ∙ ap (λ (l : Text). body ++ opened ∷ 10 ∷ l) ends in
          let joined : c ≡ (with_gate body opened ++ x) ++ closed ∷ 10 ∷ [] = front ∙ sym (append_assoc body (opened ∷ 10 ∷ []) (x ++ closed ∷ 10 ∷ [])) ∙ sym (append_assoc (with_gate body opened) x (closed ∷ 10 ∷ [])) in
          ap (λ (l : Text). take (length (with_gate body opened ++ x) + 2) l) joined ∙ take-append-add (with_gate body opened ++ x) (closed ∷ 10 ∷ []) 2

-- all but the last two bytes
pub take_front : (l x : Text) (a b : ℕ) → l ≡ x ++ a ∷ b ∷ [] → take (length l - 2) l ≡ x
take_front l x a b is =
    let long : length l ≡ length x + 2 = ap length is ∙ length-append x (a ∷ b ∷ []) in
    let n : length l - 2 ≡ length x = omega arith in
    ap (λ (k : ℕ). take k l) n ∙ ap (λ (r : Text). take (length x) r) is ∙ take-append_seam x (a ∷ b ∷ [])

-- a commit stands behind the edits that wait, on the disk too
pub settled_stands : (seen : Text) (ml : Text → Type 0) (kept before end tail : ℕ) (gate : Gate) → gate ≡ Closed → IsSettled seen ml kept before end tail gate → Only seen ml
    → (commit : Text) → All (λ b. b ≢ newline) commit → is_commit commit ≡ true → behind_in seen kept ≡ pending_in seen kept end ++ with_gate commit closed
    → IsSettled seen ml kept before end tail Unsure
settled_stands seen ml kept before end tail gate shut s only commit unbroken is_one is =
    let first = s.first in
    let order = s.order in
    let within = s.within in
    let least = s.least in
    let body = body_in seen kept in
    let behind = behind_in seen kept in
    let edits = pending_in seen kept end in
    let long = body_length seen kept (omega arith) in
    let there : length body + 2 ≡ kept = omega arith in
    let old = s.if_closed shut in
    let front : seen ≡ body ++ closed ∷ 10 ∷ behind = with_front seen body closed kept (ap (λ (n : ℕ). take n seen) (sym there) ∙ old.gate) in
    let joined : behind ≡ (edits ++ commit) ++ closed ∷ 10 ∷ [] = is ∙ sym (append_assoc edits commit (closed ∷ 10 ∷ [])) in
    let all : take (length behind - 2) behind ≡ edits ++ commit = take_front behind (edits ++ commit) closed 10 joined in
    let gated_so = gated seen body behind closed kept long front in
    record {
      least = least;
      first = first;
      order = order;
      within = within;
      fits = s.fits;
      body = s.body;
      pending = s.pending;
      earlier = s.earlier;
      if_closed = λ same. cc;
      if_unsure = λ same. record {
        gate = gated_so;
        whole = subst IsBody (ap (λ (l : Text). with_gate body opened ++ l) (sym all)) (body_grows body edits commit s.body s.pending unbroken is_one);
        ends = joined ∙ ap (λ (l : Text). l ++ closed ∷ 10 ∷ []) (sym all);
        leaves = λ c may. subst (IsGated body kept behind) (sym (only c may)) gated_so;
      };
    }

-- the commit that stood behind an open gate is kept
pub record IsKept (seen : Text) (ml : Text → Type 0) (kept after tail : ℕ) : Type 0 where
  pub settled : IsSettled seen ml after after after tail Closed
  pub body : body_in seen after ≡ doubtful_in seen kept

pub settled_kept : (seen : Text) (ml : Text → Type 0) (kept before end tail : ℕ) (gate : Gate) → gate ≡ Unsure → IsSettled seen ml kept before end tail gate → Only seen ml
    → seen ≡ body_in seen kept ++ opened ∷ 10 ∷ behind_in seen kept → (after : ℕ) → after ≡ length seen → 2 ≤ after → IsKept seen ml kept after tail
settled_kept seen ml kept before end tail gate unsure s only is after all least =
    let u = s.if_unsure unsure in
    let body = body_in seen kept in
    let behind = behind_in seen kept in
    let x = take (length behind - 2) behind in
    let doubt = with_gate body opened ++ x in
    let whole : seen ≡ doubt ++ closed ∷ 10 ∷ [] = is ∙ ap (λ (l : Text). body ++ opened ∷ 10 ∷ l) u.ends ∙ sym (append_assoc body (opened ∷ 10 ∷ []) (x ++ closed ∷ 10 ∷ [])) ∙ sym (append_assoc (with_gate body opened) x (closed ∷ 10 ∷ [])) in
    let front : body_in seen after ≡ doubt = ap (λ (n : ℕ). take (n - 2) seen) all ∙ take_front seen doubt closed 10 whole in
    let long : length seen ≡ length doubt + 2 = ap length whole ∙ length-append doubt (closed ∷ 10 ∷ []) in
    let keeps : Keeps seen doubt = take_all (length doubt + 2) seen (omega arith) ∙ whole in
    let none : after - after ≡ 0 = omega arith in
    let empty : AreEdits (take (after - after) (drop after seen)) = subst (λ (n : ℕ). AreEdits (take n (drop after seen))) (sym none) no_edits in
    let fits = s.fits in
    record {
      settled = record {
        least = least;
        first = omega arith;
        order = omega arith;
        within = omega arith;
        fits = fits;
        body = subst IsBody (sym front) u.whole;
        pending = empty;
        earlier = empty;
        if_closed = λ same. record {
          gate = subst (Keeps seen) (sym front) keeps;
          leaves = λ c may. subst (λ (l : Text). Keeps l (body_in seen after)) (sym (only c may)) (subst (Keeps seen) (sym front) keeps);
        };
        if_unsure = λ same. cc;
      };
      body = front;
    }
