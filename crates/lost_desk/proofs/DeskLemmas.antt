-- What staging, queueing and publishing do to what a desk holds.
use Rattle.std.proofs.Common.{◌≡◌, ℕ, ◌+◌, ◌-◌, ◌≤◌, Bool, true, IsTrue, ◌&&◌, List, [], ◌∷◌, ◌++◌, map, length, None, Result, Ok, Err, MatchResult, fold, is_none, refl, ap, sym, ◌∙◌, subst, arith, append_assoc, length-append}
use Rattle.std.proofs.lemmas.List.{append-nil, length-map}
use Rattle.std.proofs.lemmas.List.Sums.{fold-append}
use Rattle.std.proofs.lemmas.Bool.{and_parts}
use Rattle.lost_spec.specs.Laws.{BeginsWith}
use Rattle.lost_spec.specs.Book.{Book, Edit, Limits, refusal, after, after_all, accepts, book_of, empty_book, is_accepted}
use Rattle.lost_spec.proofs.BookLemmas.{accepted_book}
use Rattle.lost_mapping.specs.declared.edit.Edit.{Edit as CodeEdit}
use Rattle.lost_mapping.specs.Edit.{edit_of}
use Rattle.lost_digest.specs.Digest.{map_digest}
use Rattle.lost_history.specs.History.{Opening, Beginning, beginning}
use Rattle.lost_history.proofs.Beginnings.{begins_itself, begins_trans, shorter_begins}
use Rattle.lost_desk.specs.declared.version.Version.{Version}
use Rattle.lost_desk.specs.declared.version.Operation.{Operation}
use Rattle.lost_desk.specs.declared.version.Operation.TheVariants.{Change, Mark}
use Rattle.lost_desk.specs.Seen.{DeskSeen, with_staged, with_committed, with_none_pending}
use Rattle.lost_desk.specs.Copies.{IsBookOfItsList, taken, taken_all, edits_in}
use Rattle.lost_desk.specs.States.{CopiesSeen, IsDesk, IsReady, MayFollow, published_version, pending_of, desk_seen, next_of, with_waiting, with_published}

-- ---- lists and their books

and_true : (a b : Bool) → a ≡ true → b ≡ true → (a && b) ≡ true
and_true a b left right = rw (left, right) refl

accepts_push : (b : Book) (es : List Edit) (e : Edit) → accepts b es ≡ true → is_none (refusal (fold after b es) e) ≡ true → accepts b (es ++ e ∷ []) ≡ true
accepts_push b [] e all here = and_true (is_none (refusal b e)) true here refl
accepts_push b (first ∷ es) e all here =
    let parts = and_parts (is_none (refusal b first)) (accepts (after b first) es) all in
    and_true (is_none (refusal b first)) (accepts (after b first) (es ++ e ∷ [])) parts.0 (accepts_push (after b first) es e parts.1 here)

pub edits_in-change : (w : List Operation) (e : CodeEdit) → edits_in (w ++ Change e ∷ []) ≡ edits_in w ++ edit_of e ∷ []
edits_in-change [] e = refl
edits_in-change (Change first ∷ w) e = ap (λ es. edit_of first ∷ es) (edits_in-change w e)
edits_in-change (Mark front ∷ w) e = edits_in-change w e

pub edits_in-mark : (w : List Operation) (f : Beginning) → edits_in (w ++ Mark f ∷ []) ≡ edits_in w
edits_in-mark [] f = refl
edits_in-mark (Change first ∷ w) f = ap (λ es. edit_of first ∷ es) (edits_in-mark w f)
edits_in-mark (Mark front ∷ w) f = edits_in-mark w f

map_push : (queue : List CodeEdit) (e : CodeEdit) → map edit_of (queue ++ e ∷ []) ≡ map edit_of queue ++ edit_of e ∷ []
map_push [] e = refl
map_push (first ∷ queue) e = ap (λ es. edit_of first ∷ es) (map_push queue e)

-- ---- what waits, and the queue

-- an edit at the end of the queue is pending last
pub pending-queued : (c : CopiesSeen) (queue : List CodeEdit) (e : CodeEdit) → pending_of c (queue ++ e ∷ []) ≡ pending_of c queue ++ edit_of e ∷ []
pending-queued c queue e = ap (λ es. edits_in c.waiting ++ es) (map_push queue e) ∙ sym (append_assoc (edits_in c.waiting) (map edit_of queue) (edit_of e ∷ []))

-- the first edit of the queue may wait in the copies instead
pub pending-logged : (c : CopiesSeen) (queue : List CodeEdit) (e : CodeEdit) → pending_of (with_waiting c (Change e)) queue ≡ pending_of c (e ∷ queue)
pending-logged c queue e = ap (λ es. es ++ map edit_of queue) (edits_in-change c.waiting e) ∙ append_assoc (edits_in c.waiting) (edit_of e ∷ []) (map edit_of queue)

-- a mark is no edit
pub pending-marked : (c : CopiesSeen) (queue : List CodeEdit) (f : Beginning) → pending_of (with_waiting c (Mark f)) queue ≡ pending_of c queue
pending-marked c queue f = ap (λ es. es ++ map edit_of queue) (edits_in-mark c.waiting f)

-- ---- a publication

taken_book : (v : Version) (w : List Operation) → (taken_all v w).book ≡ after_all v.book (edits_in w)
taken_book v [] = refl
taken_book v (Change e ∷ w) = taken_book (taken v (Change e)) w
taken_book v (Mark f ∷ w) = taken_book (taken v (Mark f)) w

taken_seal : (v : Version) (w : List Operation) → (taken_all v w).seal ≡ v.seal
taken_seal v [] = refl
taken_seal v (Change e ∷ w) = taken_seal (taken v (Change e)) w
taken_seal v (Mark f ∷ w) = taken_seal (taken v (Mark f)) w

taken_mark : (v : Version) (w : List Operation) (f : Beginning) → taken_all v (w ++ Mark f ∷ []) ≡ record { book = after_all v.book (edits_in w); front = f; seal = v.seal }
taken_mark v w f =
    fold-append taken v w (Mark f ∷ []) ∙ ap (λ (b : Book). taken (record { book = b; front = f; seal = (taken_all v w).seal }) (Mark f)) (taken_book v w)
    ∙ ap (λ (o : Opening). taken (record { book = after_all v.book (edits_in w); front = f; seal = o }) (Mark f)) (taken_seal v w)

module _ (c : CopiesSeen) (f : Beginning) (r : IsReady c [] f) where
  same_list : f.list ≡ c.shown.front.list ++ edits_in c.waiting
  same_list = r.list ∙ ap (λ es. c.shown.front.list ++ es) (append-nil (edits_in c.waiting))

  -- what waits and a mark make the copy the book of all edits
  pub next_is : next_of (with_waiting c (Mark f)) ≡ published_version c f
  next_is =
      let all : after_all c.shown.book (edits_in c.waiting) ≡ book_of c.shown.book.limits f.list =
      ap (λ (b : Book). after_all b (edits_in c.waiting)) r.copy.book
      ∙ sym (fold-append after (empty_book c.shown.book.limits) c.shown.front.list (edits_in c.waiting)) ∙ ap (book_of c.shown.book.limits) (sym same_list) in
      taken_mark c.shown c.waiting f ∙ ap (λ (b : Book). record { book = b; front = f; seal = c.shown.seal }) all

  pub may_follow : MayFollow c.shown (next_of (with_waiting c (Mark f)))
  may_follow =
      let limits : (book_of c.shown.book.limits f.list).limits ≡ c.shown.book.limits = (accepted_book c.shown.book.limits f.list r.accepted).same_limits in
      subst (λ v. MayFollow c.shown v) (sym next_is)
      (record {
        copy = record {
          book = ap (λ (l : Limits). book_of l f.list) (sym limits);
          accepted = subst (λ (l : Limits). IsTrue (is_accepted l f.list)) (sym limits) r.accepted;
          sealed = r.copy.sealed ∙ sym r.opening;
        };
        begins = (edits_in c.waiting, same_list);
        limits = limits;
        opening = r.opening;
      })

-- what a publication answers, once the mark waits
pub published_by : {Refusal : Type 0} (result : Result (Unit {0}) Refusal) (c marked after : CopiesSeen) (f : Beginning) → IsReady c [] f → marked ≡ with_waiting c (Mark f)
    → MatchResult result (λ _. after ≡ with_published marked) (λ _. after ≡ marked)
    → MatchResult result (λ _. (after.shown ≡ published_version c f) × (after.waiting ≡ [])) (λ _. (after.shown ≡ c.shown) × (edits_in after.waiting ≡ edits_in c.waiting))
published_by (Ok _) c marked after f r m e = (ap (λ (x : CopiesSeen). x.shown) e ∙ ap next_of m ∙ next_is c f r, ap (λ (x : CopiesSeen). x.waiting) e)
published_by (Err _) c marked after f r m e =
    (ap (λ (x : CopiesSeen). x.shown) (e ∙ m), ap (λ (x : CopiesSeen). edits_in x.waiting) (e ∙ m) ∙ edits_in-mark c.waiting f)

-- ---- a desk

module _ (c : CopiesSeen) (queue : List CodeEdit) (book : Book) (history : Beginning) (right : Opening) (digest : ℕ) (d : IsDesk c queue book history right digest) where
  pub counted : book.edits ≡ length c.shown.front.list + length (pending_of c queue)
  counted =
      ap (λ (b : Book). b.edits) d.ahead ∙ ((accepted_book c.shown.book.limits (c.shown.front.list ++ pending_of c queue) d.accepted).counted
      ∙ length-append c.shown.front.list (pending_of c queue))

  -- as many edits as all of them, published and pending
  pub counted_all : book.edits ≡ length (c.shown.front.list ++ pending_of c queue)
  counted_all = counted ∙ sym (length-append c.shown.front.list (pending_of c queue))

  none_of : {A : Type 0} (xs : List A) → length xs ≡ 0 → xs ≡ []
  none_of [] e = refl
  none_of (x ∷ xs) e = absurd (omega arith)

  -- nothing is pending where no more edits are counted than are published
  pub none_pending : book.edits ≡ length c.shown.front.list → pending_of c queue ≡ []
  none_pending e = let none : length (pending_of c queue) ≡ 0 = omega (arith, counted) in none_of (pending_of c queue) none

  pub staged_is : (e : CodeEdit) → desk_seen c (queue ++ e ∷ []) ≡ with_staged (desk_seen c queue) (edit_of e)
  staged_is e = ap (λ (es : List Edit). record { opening = c.shown.front.opening; limits = c.shown.book.limits; published = c.shown.front.list; pending = es }) (pending-queued c queue e)

  -- the list of all edits, with one more staged
  all_staged : (e : CodeEdit) → c.shown.front.list ++ pending_of c (queue ++ e ∷ []) ≡ (c.shown.front.list ++ pending_of c queue) ++ edit_of e ∷ []
  all_staged e = ap (λ es. c.shown.front.list ++ es) (pending-queued c queue e) ∙ sym (append_assoc c.shown.front.list (pending_of c queue) (edit_of e ∷ []))

  pub stage_keeps : (e : CodeEdit) → refusal book (edit_of e) ≡ None → IsDesk c (queue ++ e ∷ []) (after book (edit_of e)) history right digest
  stage_keeps e free =
      let all = c.shown.front.list ++ pending_of c queue in
      let here : is_none (refusal (book_of c.shown.book.limits all) (edit_of e)) ≡ true = ap (λ (b : Book). is_none (refusal b (edit_of e))) (sym d.ahead) ∙ ap is_none free in
      record {
        copy = d.copy;
        ahead = ap (λ (b : Book). after b (edit_of e)) d.ahead ∙ sym (fold-append after (empty_book c.shown.book.limits) all (edit_of e ∷ [])) ∙ ap (book_of c.shown.book.limits) (sym (all_staged e));
        accepted = subst (λ es. IsTrue (is_accepted c.shown.book.limits es)) (sym (all_staged e)) (accepts_push (empty_book c.shown.book.limits) all (edit_of e) d.accepted here);
        reached = begins_trans history.list all (c.shown.front.list ++ pending_of c (queue ++ e ∷ [])) (edit_of e ∷ [], all_staged e) d.reached;
        opening = d.opening;
        head = d.head;
        digest_is = d.digest_is;
      }

  -- the same, by the parts that a stage leaves
  pub stage_gives : (e copy : CodeEdit) (queue' : List CodeEdit) (book' : Book) → queue' ≡ queue ++ e ∷ [] → book' ≡ after book (edit_of copy) → edit_of copy ≡ edit_of e → refusal book (edit_of e) ≡ None → IsDesk c queue' book' history right digest
  stage_gives e copy queue' book' q b same free = rw (q, b, same) (stage_keeps e free)

  -- how many edits are pending
  pub counts : (edition published : ℕ) (shown : Version) → edition ≡ book.edits → published ≡ length shown.front.list → shown ≡ c.shown → (published ≤ edition) × (edition - published ≡ length (pending_of c queue))
  counts edition published shown e p is =
      let long : length shown.front.list ≡ length c.shown.front.list = ap (λ (v : Version). length v.front.list) is in
      (omega (arith, counted, e, p, long), omega (arith, counted, e, p, long))

  -- the history may go as far as all edits
  pub reach_keeps : IsDesk c queue book (beginning history.opening (c.shown.front.list ++ pending_of c queue)) right digest
  reach_keeps = record { copy = d.copy; ahead = d.ahead; accepted = d.accepted; reached = begins_itself (c.shown.front.list ++ pending_of c queue); opening = d.opening; head = d.head; digest_is = d.digest_is }

  pub ready : IsReady c queue (beginning history.opening (c.shown.front.list ++ pending_of c queue))
  ready = record { copy = d.copy; list = refl; accepted = d.accepted; opening = d.opening }

  -- the same edits pending in another way
  pub keeps_by : (c' : CopiesSeen) (queue' : List CodeEdit) → c'.shown ≡ c.shown → pending_of c' queue' ≡ pending_of c queue → IsDesk c' queue' book history right digest
  keeps_by c' queue' shown pending =
      let P : Version → List Edit → Type 0 = λ v es. IsBookOfItsList v × (book ≡ book_of v.book.limits (v.front.list ++ es)) × IsTrue (is_accepted v.book.limits (v.front.list ++ es)) × BeginsWith (v.front.list ++ es) history.list × (history.opening ≡ v.front.opening) in
      let t : P c'.shown (pending_of c' queue') = rw (shown, pending) (d.copy, d.ahead, d.accepted, d.reached, d.opening) in
      record { copy = t.0; ahead = t.1; accepted = t.2; reached = t.3; opening = t.4; head = d.head; digest_is = d.digest_is ∙ ap (λ (v : Version). map_digest v.book.mappings) (sym shown) }

  -- all edits published, where the digest is that of the book of all
  pub publish_keeps : (c' : CopiesSeen) (queue' : List CodeEdit) → c'.shown ≡ published_version c (beginning history.opening (c.shown.front.list ++ pending_of c queue)) → pending_of c' queue' ≡ []
      → (digest' : ℕ) → digest' ≡ map_digest book.mappings → IsDesk c' queue' book (beginning history.opening (c.shown.front.list ++ pending_of c queue)) right digest'
  publish_keeps c' queue' shown pending digest' is =
      let all = c.shown.front.list ++ pending_of c queue in
      let limits : (book_of c.shown.book.limits all).limits ≡ c.shown.book.limits = (accepted_book c.shown.book.limits all d.accepted).same_limits in
      let nil : all ++ [] ≡ all = append-nil all in
      let P : Version → List Edit → Type 0 = λ v es. IsBookOfItsList v × (book ≡ book_of v.book.limits (v.front.list ++ es)) × IsTrue (is_accepted v.book.limits (v.front.list ++ es)) × BeginsWith (v.front.list ++ es) all × (history.opening ≡ v.front.opening) in
      let t : P c'.shown (pending_of c' queue') = rw (shown, pending) (
        record {
          book = ap (λ (l : Limits). book_of l all) (sym limits);
          accepted = subst (λ (l : Limits). IsTrue (is_accepted l all)) (sym limits) d.accepted;
          sealed = d.copy.sealed ∙ sym d.opening;
        },
        d.ahead ∙ ap (λ (l : Limits). book_of l all) (sym limits) ∙ ap (book_of (book_of c.shown.book.limits all).limits) (sym nil),
        subst (λ es. IsTrue (is_accepted (book_of c.shown.book.limits all).limits es)) (sym nil) (subst (λ (l : Limits). IsTrue (is_accepted l all)) (sym limits) d.accepted),
        subst (λ es. BeginsWith es all) (sym nil) (begins_itself all),
        refl,
      ) in
      record {
        copy = t.0;
        ahead = t.1;
        accepted = t.2;
        reached = t.3;
        opening = t.4;
        head = d.head;
        digest_is = is ∙ ap (λ (b : Book). map_digest b.mappings) d.ahead ∙ ap (λ (v : Version). map_digest v.book.mappings) (sym shown);
      }

  pub committed_is : (c' : CopiesSeen) (queue' : List CodeEdit) → c'.shown ≡ published_version c (beginning history.opening (c.shown.front.list ++ pending_of c queue)) → pending_of c' queue' ≡ []
      → desk_seen c' queue' ≡ with_committed (desk_seen c queue)
  committed_is c' queue' shown pending =
      let all = c.shown.front.list ++ pending_of c queue in
      let limits : (book_of c.shown.book.limits all).limits ≡ c.shown.book.limits = (accepted_book c.shown.book.limits all d.accepted).same_limits in
      let P : Version → List Edit → DeskSeen = λ v es. record { opening = v.front.opening; limits = v.book.limits; published = v.front.list; pending = es } in
      ap (λ v. P v (pending_of c' queue')) shown ∙ ap (P (published_version c (beginning history.opening all))) pending
      ∙ ap (λ (o : Opening). record { opening = o; limits = (book_of c.shown.book.limits all).limits; published = all; pending = [] }) d.opening
      ∙ ap (λ (l : Limits). record { opening = c.shown.front.opening; limits = l; published = all; pending = [] }) limits

  -- nothing waits in the copies where the queue has all that is pending
  none_waits : book.edits ≡ length c.shown.front.list + length queue → edits_in c.waiting ≡ []
  none_waits e =
      let both : length (pending_of c queue) ≡ length (edits_in c.waiting) + length (map edit_of queue) = length-append (edits_in c.waiting) (map edit_of queue) in
      let queued : length (map edit_of queue) ≡ length queue = length-map queue edit_of in
      let none : length (edits_in c.waiting) ≡ 0 = omega (arith, counted, e, both, queued) in
      none_of (edits_in c.waiting) none

  -- once the queue is empty, the published edits are all
  all_published : edits_in c.waiting ≡ [] → c.shown.front.list ++ pending_of c [] ≡ c.shown.front.list
  all_published none = ap (λ es. c.shown.front.list ++ (es ++ [])) none ∙ append-nil c.shown.front.list

  -- the queue may be dropped, where the history goes no further than what is published
  pub drop_keeps : book.edits ≡ length c.shown.front.list + length queue → length history.list ≡ length c.shown.front.list → (queue' : List CodeEdit) → queue' ≡ [] → (book' : Book) → book' ≡ c.shown.book
      → IsDesk c queue' book' history right digest
  drop_keeps e long queue' empty book' same =
      let nil = all_published (none_waits e) in
      let all = c.shown.front.list ++ pending_of c queue in
      let begins : BeginsWith c.shown.front.list history.list =
      shorter_begins history.list c.shown.front.list all (d.reached.0, sym d.reached.1) (pending_of c queue, refl) (omega (arith, long)) in
      rw empty (record {
        copy = d.copy;
        ahead = same ∙ d.copy.book ∙ ap (book_of c.shown.book.limits) (sym nil);
        accepted = subst (λ es. IsTrue (is_accepted c.shown.book.limits es)) (sym nil) d.copy.accepted;
        reached = subst (λ es. BeginsWith es history.list) (sym nil) begins;
        opening = d.opening;
        head = d.head;
        digest_is = d.digest_is;
      })

  pub dropped_is : book.edits ≡ length c.shown.front.list + length queue → (queue' : List CodeEdit) → queue' ≡ [] → desk_seen c queue' ≡ with_none_pending (desk_seen c queue)
  dropped_is e queue' empty =
      let none : pending_of c queue' ≡ [] = ap (pending_of c) empty ∙ ap (λ es. es ++ []) (none_waits e) in
      ap (λ (es : List Edit). record { opening = c.shown.front.opening; limits = c.shown.book.limits; published = c.shown.front.list; pending = es }) none

  -- with nothing pending, it stays so
  pub none_dropped : pending_of c queue ≡ [] → desk_seen c queue ≡ with_none_pending (desk_seen c queue)
  none_dropped none = ap (λ (es : List Edit). record { opening = c.shown.front.opening; limits = c.shown.book.limits; published = c.shown.front.list; pending = es }) none

  -- with nothing pending, the desk is as it would be once committed
  pub nothing_is : pending_of c queue ≡ [] → desk_seen c queue ≡ with_committed (desk_seen c queue)
  nothing_is none =
      let P : List Edit → List Edit → DeskSeen = λ published pending. record { opening = c.shown.front.opening; limits = c.shown.book.limits; published = published; pending = pending } in
      ap (P c.shown.front.list) none ∙ ap (λ published. P published []) (sym (ap (λ es. c.shown.front.list ++ es) none ∙ append-nil c.shown.front.list))
