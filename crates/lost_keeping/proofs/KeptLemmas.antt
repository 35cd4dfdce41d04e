-- How what a journal keeps goes with what a desk has.
use Rattle.std.proofs.Common.{◌≡◌, ◌≢◌, Bool, true, false, List, [], ◌∷◌, ◌++◌, All, Option, None, Some, Result, Ok, refl, sym, ◌∙◌, ap, subst, append_assoc, append-nil, arith}
use Rattle.lost_spec.specs.Text.{Text}
use Rattle.lost_spec.specs.Book.{Limits, Edit, refusal}
use Rattle.lost_spec.specs.Laws.{BeginsWith}
use Rattle.lost_lines.specs.Cutting.{newline, cut, ended_lines, last_piece}
use Rattle.lost_lines.proofs.CuttingLemmas.{cut-join, cut-line}
use Rattle.lost_reading.specs.Desk.{Stage, Commit, desk_line}
use Rattle.lost_json.specs.Stream.{Terms, Lists, keep, book}
use Rattle.lost_json.specs.Step.{lists_after}
use Rattle.lost_desk.specs.Seen.{DeskSeen, staged_book, with_staged, with_committed, with_none_pending}
use Rattle.lost_worker.specs.Desking.{IsSameDesk, desk_terms, lists_of}
use Rattle.lost_journal.specs.Format.{opened, closed, with_gate, with_commit, AreEdits}
use Rattle.lost_journal.proofs.BodyLemmas.{cut-gate, cut-commit}
use Rattle.lost_keeping.specs.Kept.{lists_through, all_published, lists_of_text, lists_kept, OrdersCommit, IsKeptFor}
use Rattle.lost_keeping.specs.Recovery.{IsReadTo}

pub lists_through-append : (terms : Terms) (l : Lists) (xs ys : List Text) → lists_through terms l (xs ++ ys) ≡ lists_through terms (lists_through terms l xs) ys
lists_through-append terms l [] ys = refl
lists_through-append terms l (x ∷ xs) ys = lists_through-append terms (lists_after terms l (desk_line x)) xs ys

-- the lists after one line more
pub lists_more : (terms : Terms) (l : Lists) (xs : List Text) (line : Text) → lists_through terms l (xs ++ line ∷ []) ≡ lists_after terms (lists_through terms l xs) (desk_line line)
lists_more terms l xs line = lists_through-append terms l xs (line ∷ [])

abbrev first_of : List Text × Text → List Text
first_of p = p.0

-- whole lines with one more
pub ended_more : (text line : Text) → last_piece text ≡ [] → All (λ b. b ≢ newline) line → ended_lines (text ++ (line ++ newline ∷ [])) ≡ ended_lines text ++ line ∷ []
ended_more text line whole unbroken =
    ap first_of (cut-join text (line ++ newline ∷ []) (ended_lines text) (line ∷ []) [] [] (ap (λ (p : Text). (ended_lines text, p)) whole) (cut-line line unbroken))

-- the lists of a body do not depend on whether its last gate is open
pub same_by_gate : (limits : Limits) (body : Text) → OrdersCommit (last_piece body) → lists_of_text limits (with_gate body opened) ≡ lists_kept limits body
same_by_gate limits body orders =
    let terms = desk_terms limits in
    let start = all_published [] in
    let before = lists_through terms start (ended_lines body) in
    let by_open = ap (lists_through terms start) (ap first_of (cut-gate body opened (λ same. omega arith))) ∙ lists_more terms start (ended_lines body) (last_piece body ++ opened ∷ []) ∙ ap (lists_after terms before) orders.with_open in
    let by_closed = ap (lists_through terms start) (ap first_of (cut-gate body closed (λ same. omega arith))) ∙ lists_more terms start (ended_lines body) (last_piece body ++ closed ∷ []) ∙ ap (lists_after terms before) orders.with_closed in
    by_open ∙ sym by_closed

-- one commit more is kept
pub kept_grows : (limits : Limits) (body waiting commit : Text) (edits all : List Edit) → OrdersCommit (last_piece body) → lists_kept limits body ≡ all_published edits
    → AreEdits waiting → lists_through (desk_terms limits) (all_published edits) (ended_lines waiting) ≡ record { accepted = all; published = edits }
    → All (λ b. b ≢ newline) commit → OrdersCommit commit → lists_kept limits (with_commit body waiting commit) ≡ all_published all
kept_grows limits body waiting commit edits all orders kept are waits unbroken says =
    let terms = desk_terms limits in
    let start = all_published [] in
    let whole = with_commit body waiting commit in
    let cuts = cut-commit body waiting commit are unbroken in
    let front = ended_lines body ++ (last_piece body ++ opened ∷ []) ∷ [] in
    let lines : ended_lines (with_gate whole closed) ≡ (front ++ ended_lines waiting) ++ (commit ++ closed ∷ []) ∷ [] =
    ap first_of (cut-gate whole closed (λ same. omega arith))
    ∙ ap (λ (p : List Text × Text). p.0 ++ (p.1 ++ closed ∷ []) ∷ []) cuts in
    let before : lists_through terms start front ≡ all_published edits =
    sym (ap (lists_through terms start) (ap first_of (cut-gate body opened (λ same. omega arith)))) ∙ same_by_gate limits body orders ∙ kept in
    let then : lists_through terms start (front ++ ended_lines waiting) ≡ record { accepted = all; published = edits } =
    lists_through-append terms start front (ended_lines waiting) ∙ ap (λ (l : Lists). lists_through terms l (ended_lines waiting)) before ∙ waits in
    ap (lists_through terms start) lines
    ∙ lists_more terms start (front ++ ended_lines waiting) (commit ++ closed ∷ [])
    ∙ ap (λ (l : Lists). lists_after terms l (desk_line (commit ++ closed ∷ []))) then
    ∙ ap (lists_after terms (record { accepted = all; published = edits })) says.with_closed

-- an edit is kept, and staged
pub edit_kept : (body waiting line : Text) (owes : Bool) (d : DeskSeen) (e : Edit) → IsKeptFor body waiting owes d → last_piece waiting ≡ [] → All (λ b. b ≢ newline) line
    → desk_line line ≡ Some (Ok (Stage e)) → refusal (staged_book d) e ≡ None → IsKeptFor body (waiting ++ (line ++ newline ∷ [])) owes (with_staged d e)
edit_kept body waiting line owes d e k whole unbroken order accepted =
    let terms = desk_terms d.limits in
    let before : Lists = record { accepted = d.published ++ d.pending; published = k.edits } in
    let staged : keep terms (d.published ++ d.pending) e ≡ (d.published ++ d.pending) ++ e ∷ [] = rw accepted refl in
    record {
      edits = k.edits;
      kept = k.kept;
      all = ap (lists_through terms (all_published k.edits)) (ended_more waiting line whole unbroken)
          ∙ lists_more terms (all_published k.edits) (ended_lines waiting) line
          ∙ ap (λ (l : Lists). lists_after terms l (desk_line line)) k.all
          ∙ ap (lists_after terms before) order
          ∙ ap (λ (es : List Edit). record { accepted = es; published = k.edits }) (staged ∙ append_assoc d.published d.pending (e ∷ []));
      begins = k.begins;
      even = k.even;
      commits = k.commits;
    }

-- the last piece of a body with one commit more
pub last_commit : (body edits commit : Text) → AreEdits edits → All (λ b. b ≢ newline) commit → last_piece (with_commit body edits commit) ≡ commit
last_commit body edits commit are unbroken = ap (λ (p : List Text × Text). p.1) (cut-commit body edits commit are unbroken)

-- a commit of all that waits is kept
pub commit_kept : (body waiting commit : Text) (owes : Bool) (d : DeskSeen) → IsKeptFor body waiting owes d → AreEdits waiting → All (λ b. b ≢ newline) commit → OrdersCommit commit
    → lists_kept d.limits (with_commit body waiting commit) ≡ all_published (d.published ++ d.pending)
commit_kept body waiting commit owes d k are unbroken says = kept_grows d.limits body waiting commit k.edits (d.published ++ d.pending) k.commits k.kept are k.all unbroken says

-- nothing waits, so all is kept
pub all_is_kept : (body : Text) (owes : Bool) (d : DeskSeen) → IsKeptFor body [] owes d → lists_kept d.limits body ≡ all_published (d.published ++ d.pending)
all_is_kept body owes d k = k.kept ∙ ap all_published (ap (λ (l : Lists). l.accepted) k.all)

-- all is kept, and published
pub published_kept : (body : Text) (d : DeskSeen) → lists_kept d.limits body ≡ all_published (d.published ++ d.pending) → OrdersCommit (last_piece body) → IsKeptFor body [] false (with_committed d)
published_kept body d kept says = record {
  edits = d.published ++ d.pending;
  kept = kept;
  all = ap (λ (es : List Edit). record { accepted = es; published = d.published ++ d.pending }) (sym (append-nil (d.published ++ d.pending)));
  begins = ([], sym (append-nil (d.published ++ d.pending)));
  even = λ is. refl;
  commits = says;
}

-- all is kept, and not published
pub owed_kept : (body : Text) (d : DeskSeen) → lists_kept d.limits body ≡ all_published (d.published ++ d.pending) → OrdersCommit (last_piece body) → IsKeptFor body [] true d
owed_kept body d kept says = record {
  edits = d.published ++ d.pending;
  kept = kept;
  all = refl;
  begins = (d.pending, refl);
  even = λ is. absurd (cc);
  commits = says;
}

-- a line more was read, and its order done
pub read_more : (read line : Text) (old new : DeskSeen) → IsReadTo read old → IsSameDesk old new → last_piece read ≡ [] → All (λ b. b ≢ newline) line
    → lists_of new ≡ lists_after (desk_terms old.limits) (lists_of old) (desk_line line) → IsReadTo (read ++ (line ++ newline ∷ [])) new
read_more read line old new is same whole unbroken does =
    ap (λ (m : Limits). lists_of_text m (read ++ (line ++ newline ∷ []))) same.limits
    ∙ ap (lists_through (desk_terms old.limits) (all_published [])) (ended_more read line whole unbroken)
    ∙ lists_more (desk_terms old.limits) (all_published []) (ended_lines read) line
    ∙ ap (λ (l : Lists). lists_after (desk_terms old.limits) l (desk_line line)) is
    ∙ sym does

-- a commit does what its line orders
pub commit_does : (line : Text) (old new : DeskSeen) → desk_line line ≡ Some (Ok Commit) → lists_of new ≡ all_published (old.published ++ old.pending)
    → lists_of new ≡ lists_after (desk_terms old.limits) (lists_of old) (desk_line line)
commit_does line old new order does = does ∙ sym (ap (lists_after (desk_terms old.limits) (lists_of old)) order)

-- what is published is just what is kept, once all was read
pub all_read : (read body : Text) (d : DeskSeen) → IsReadTo read d → read ≡ with_gate body closed → d.pending ≡ [] → lists_kept d.limits body ≡ all_published d.published
all_read read body d is whole nothing =
    ap (lists_of_text d.limits) (sym whole) ∙ is ∙ ap (λ (es : List Edit). record { accepted = es; published = d.published }) (ap (λ (p : List Edit). d.published ++ p) nothing ∙ append-nil d.published)

-- what was recovered is kept on
pub recovered_kept : (body found waiting : Text) (d : DeskSeen) → body ≡ found → lists_kept d.limits found ≡ all_published d.published → waiting ≡ [] → d.pending ≡ [] → OrdersCommit (last_piece found) → IsKeptFor body waiting false d
recovered_kept body found waiting d same kept none nothing says =
    subst (λ (w : Text). IsKeptFor body w false d) (sym none) (subst (λ (b : Text). IsKeptFor b [] false d) (sym same) (record {
      edits = d.published;
      kept = kept;
      all = ap (λ (es : List Edit). record { accepted = es; published = d.published }) (sym (ap (λ (p : List Edit). d.published ++ p) nothing ∙ append-nil d.published));
      begins = ([], sym (append-nil d.published));
      even = λ is. refl;
      commits = says;
    }))

-- before anything was read
pub nothing_read : (read : Text) (d : DeskSeen) → read ≡ [] → lists_of d ≡ all_published [] → IsReadTo read d
nothing_read read d none nothing = ap (lists_of_text d.limits) none ∙ sym nothing
