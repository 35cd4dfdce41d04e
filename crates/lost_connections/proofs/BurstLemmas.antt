-- Lemmas on bursts: a line of which only a front is kept is answered as the line is.
use Rattle.std.proofs.Common.{take-append-drop, ◌≡◌, ◌≢◌, ◌⊎◌, inl, inr, ℕ, zero, suc, ◌+◌, ◌<◌, ◌≤◌, ◌==◌, Bool, true, false, true≢false, List, [], ◌∷◌, ◌++◌, cond, ◌-◌, min, length, length-append, length-drop, take, drop, take_all, length-take-le, All, refl, sym, ap, subst, ⊎_elim, ◌∙◌, append_assoc, append-nil, arith, lt-ltb, eq-eqb, eqb-true}
use Rattle.std.proofs.lemmas.Bool.{ne_eqb, cond-false, cases_lt}
use lib.Seq.{take-append-add}
use Rattle.std.proofs.lemmas.List.{take_more, get_or-drop, get_or_default, take-append-le}
use Rattle.std.proofs.lemmas.List.Elements.{All-head, All-tail, All-take, All-append, All-nil, All-cons}
use Rattle.std.proofs.lemmas.List.Sums.{sum_by-cons}
use Rattle.memchr.specs.Find.{NoneAfter, Passes, is_byte}
use Rattle.lost_spec.specs.Text.{Text}
use Rattle.lost_lines.specs.Cutting.{newline, line_limit, with_byte, cut, ended_lines, last_piece, piece_lines, lines_of, is_long}
use Rattle.lost_lines.specs.Run.{Cut, Whole, TooLong, Unread, IsCut, Reply, Run, text_of, long_count}
use Rattle.lost_lines.specs.Serving.{Adds}
use Rattle.lost_lines.specs.declared.counts.Counts.{Counts}
use Rattle.lost_lines.proofs.CuttingLemmas.{cut-join, cut-line, cut-piece, lines_of-cut}
use Rattle.lost_worker.specs.Lines.{Worker, Answers}
use Rattle.lost_connections.specs.declared.faults.ClientFault.{ClientFault}
use Rattle.lost_connections.specs.declared.faults.ClientFault.TheVariants.{Memory, Spent}
use Rattle.lost_connections.specs.Begun.{IsBegun}
use Rattle.lost_connections.specs.Replies.{Replied, AnswersAll, AnswersSome, AnswersFront}

-- a byte that ends no line stands at the front of the first
cut-other : (b : ℕ) (x : Text) → (b == newline) ≡ false → cut (b ∷ x) ≡ with_byte b (ended_lines x) (last_piece x)
cut-other b x e = cond-false (b == newline) ([] ∷ ended_lines x, last_piece x) (with_byte b (ended_lines x) (last_piece x)) e

-- cut bytes, behind a line that was begun
abbrev pub behind : Text → List Text × Text → List Text × Text
behind p ([], q) = ([], p ++ q)
behind p (l ∷ ls, q) = ((p ++ l) ∷ ls, q)

-- the lines of cut bytes
abbrev pub lines_in : List Text × Text → List Text
lines_in c = c.0 ++ piece_lines c.1

behind-nil : (c : List Text × Text) → c ≡ behind [] c
behind-nil ([], q) = refl
behind-nil (l ∷ ls, q) = refl

with_byte-behind : (b : ℕ) (p : Text) (c : List Text × Text) → with_byte b (behind p c).0 (behind p c).1 ≡ behind (b ∷ p) c
with_byte-behind b p ([], q) = refl
with_byte-behind b p (l ∷ ls, q) = refl

-- bytes behind a text without byte 10 are cut as they are alone, and the text stands before the first line or the last piece
pub cut-behind : (p g : Text) → All (λ b. b ≢ newline) p → cut (p ++ g) ≡ behind p (cut g)
cut-behind [] g h = behind-nil (cut g)
cut-behind (b ∷ p) g h =
    let e : (b == newline) ≡ false = ne_eqb b 10 (All-head (λ b. b ≢ newline) b p h) in
    let f : List Text × Text → List Text × Text = λ c. with_byte b c.0 c.1 in
    cut-other b (p ++ g) e ∙ ap f (cut-behind p g (All-tail (λ b. b ≢ newline) b p h)) ∙ with_byte-behind b p (cut g)

pub lines_of-behind : (p g : Text) → All (λ b. b ≢ newline) p → lines_of (p ++ g) ≡ lines_in (behind p (cut g))
lines_of-behind p g h = ap lines_in (cut-behind p g h)

piece_lines-some : (x : Text) → 0 < length x → piece_lines x ≡ x ∷ []
piece_lines-some [] some = absurd (omega (arith, some))
piece_lines-some (b ∷ x) some = refl

-- behind a line that was begun, the first line of bytes goes on with it, and the others are as they are alone
pub record FirstGoesOn (g : Text) : Type 0 where
  pub first : Text
  pub others : List Text
  pub lines : (p : Text) → All (λ b. b ≢ newline) p → 0 < length p → lines_of (p ++ g) ≡ (p ++ first) ∷ others

first_in : (g : Text) (c : List Text × Text) → cut g ≡ c → FirstGoesOn g
first_in g ([], q) e = record {
  first = q;
  others = [];
  lines = λ p unbroken some. lines_of-behind p g unbroken ∙ ap (λ c. lines_in (behind p c)) e ∙ piece_lines-some (p ++ q) (omega (arith, some, length-append p q));
}
first_in g (l ∷ ls, q) e = record {
  first = l;
  others = ls ++ piece_lines q;
  lines = λ p unbroken some. lines_of-behind p g unbroken ∙ ap (λ c. lines_in (behind p c)) e;
}

pub first_goes_on : (g : Text) → FirstGoesOn g
first_goes_on g = first_in g (cut g) refl

-- a line that is over the limit is cut as any other that is
cut_other_line : (l m : Text) → is_long l ≡ true → is_long m ≡ true → (c : Cut) → IsCut l c → IsCut m c
cut_other_line l m p q (Whole kept) is = absurd (true≢false (sym p ∙ is.1))
cut_other_line l m p q TooLong is = q
cut_other_line l m p q Unread is = tt

run_other_line : (name : Text) (old new : Worker) (l m : Text) (ls : List Text) (rs : List Reply) → is_long l ≡ true → is_long m ≡ true
    → Run (Answers name) old (l ∷ ls) rs new → Run (Answers name) old (m ∷ ls) rs new
run_other_line name old new l m ls [] p q run = absurd run
run_other_line name old new l m ls (r ∷ rs) p q (c, next, is, does, rest) = (c, next, cut_other_line l m p q c is, does, rest)

-- all of a line is kept, or both are over the limit, whatever stands behind
pub record AreLong (kept piece : Text) : Type 0 where
  pub unbroken : All (λ b. b ≢ newline) kept
  pub some : 0 < length kept
  pub some_piece : 0 < length piece
  pub kept_long : (f : Text) → is_long (kept ++ f) ≡ true
  pub piece_long : (f : Text) → is_long (piece ++ f) ≡ true

long_behind : (x f : Text) → line_limit < length x → is_long (x ++ f) ≡ true
long_behind x f over = lt-ltb line_limit (length (x ++ f)) (omega (arith, over, length-append x f))

same_or_long : (kept piece : Text) → IsBegun kept piece → (kept ≡ piece) ⊎ AreLong kept piece
same_or_long kept piece begun = ⊎_elim
    (λ (over : line_limit < length piece).
    let counted : length kept ≡ line_limit + 1 = ap length begun.front ∙ length-take-le (line_limit + 1) piece (omega (arith, over)) in
    inr (record {
      unbroken = rw begun.front (All-take (λ b. b ≢ newline) (line_limit + 1) piece begun.is_open);
      some = omega (arith, counted);
      some_piece = omega (arith, over);
      kept_long = λ f. long_behind kept f (omega (arith, counted));
      piece_long = λ f. long_behind piece f over;
    }))
    (λ (within : length piece ≤ line_limit). inl (begun.front ∙ take_all (line_limit + 1) piece (omega (arith, within))))
    (cases_lt line_limit (length piece))

memory_is_spent : Memory ≡ Spent → ⊥
memory_is_spent is = cc

-- and counted as any other that is
long_count-other : (l m : Text) (ls : List Text) → is_long l ≡ true → is_long m ≡ true → long_count (l ∷ ls) ≡ long_count (m ∷ ls)
long_count-other l m ls p q =
    let f : Text → ℕ = λ line. cond (is_long line) 1 0 in
    sum_by-cons f l ls ∙ ap (λ (b : Bool). cond b 1 0 + long_count ls) (p ∙ sym q) ∙ sym (sum_by-cons f m ls)

adds_other : (x y : Counts) (l m : Text) (ls : List Text) (rs : List Reply) → is_long l ≡ true → is_long m ≡ true → Adds x y (l ∷ ls) rs → Adds x y (m ∷ ls) rs
adds_other x y l m ls rs p q adds = record {
  lines_answered = adds.lines_answered;
  long_lines = adds.long_lines ∙ ap (λ (n : ℕ). x.long_lines + n) (long_count-other l m ls p q);
  memory = adds.memory;
  faults = adds.faults;
}

module _ (says : ℕ → Bool → Type 0) (name : Text) (old new : Worker) where
  -- the lines behind what is kept of a line were answered, and so those behind the line
  answers_other : (l m : Text) (ls : List Text) (x y : Replied) → is_long l ≡ true → is_long m ≡ true
      → AnswersAll says name old new (l ∷ ls) x y → AnswersAll says name old new (m ∷ ls) x y
  answers_other l m ls x y p q answers = record {
    replies = answers.replies;
    run = run_other_line name old new l m ls answers.replies p q answers.run;
    let_through = answers.let_through;
    behind = answers.behind;
    counted = adds_other x.counts y.counts l m ls answers.replies p q answers.counted;
    same_most = answers.same_most;
  }

  answers_long : (kept piece g : Text) (x y : Replied) → All (λ b. b ≢ newline) piece → AreLong kept piece
      → AnswersAll says name old new (lines_of (kept ++ g)) x y → AnswersAll says name old new (lines_of (piece ++ g)) x y
  answers_long kept piece g x y unbroken long answers =
      let on = first_goes_on g in
      subst (λ (ls : List Text). AnswersAll says name old new ls x y) (sym (on.lines piece unbroken long.some_piece))
      (answers_other (kept ++ on.first) (piece ++ on.first) on.others x y (long.kept_long on.first) (long.piece_long on.first)
      (subst (λ (ls : List Text). AnswersAll says name old new ls x y) (on.lines kept long.unbroken long.some) answers))

  pub answers_whole : (kept piece g : Text) (x y : Replied) → IsBegun kept piece
      → AnswersAll says name old new (lines_of (kept ++ g)) x y → AnswersAll says name old new (lines_of (piece ++ g)) x y
  answers_whole kept piece g x y begun answers = ⊎_elim
      (λ (same : kept ≡ piece). subst (λ (p : Text). AnswersAll says name old new (lines_of (p ++ g)) x y) same answers)
      (λ (long : AreLong kept piece). answers_long kept piece g x y begun.is_open long answers)
      (same_or_long kept piece begun)

  -- the same of a front of the lines
  some_other : (l m : Text) (ls : List Text) (rs : List Reply) (x y : Replied) (fault : ClientFault) → is_long l ≡ true → is_long m ≡ true
      → AnswersSome says name old new (l ∷ ls) rs x y fault → AnswersSome says name old new (m ∷ ls) rs x y fault
  some_other l m ls rs x y fault p q some = record {
    run = run_other_line name old new l m ls rs p q some.run;
    let_through = some.let_through;
    behind = some.behind;
    counted = ⊎_elim (λ (none : y.counts ≡ x.counts). inl none) (λ (all : Adds x.counts y.counts (l ∷ ls) rs). inr (adds_other x.counts y.counts l m ls rs p q all)) some.counted;
    same_most = some.same_most;
    cause = some.cause;
    whole = some.whole;
    spent = some.spent;
  }

head_of : List Text → Text
head_of [] = []
head_of (l ∷ ls) = l

tail_of : List Text → List Text
tail_of [] = []
tail_of (l ∷ ls) = ls

module _ (says : ℕ → Bool → Type 0) (name : Text) (old new : Worker) where
  front_long : (l m : Text) (ms : List Text) (x y : Replied) (fault : ClientFault) → is_long l ≡ true → is_long m ≡ true → (lines others : List Text) (replies : List Reply)
      → l ∷ ms ≡ lines ++ others → AnswersSome says name old new lines replies x y fault → AnswersFront says name old new (m ∷ ms) x y fault
  unfolding head_of tail_of
  front_long l m ms x y fault p q [] others replies begins some = record { lines = []; others = m ∷ ms; begins = refl; replies = replies; answered = some }
  front_long l m ms x y fault p q (v ∷ vs) others replies begins some =
      let first : l ≡ v = ap head_of begins in
      let later : ms ≡ vs ++ others = ap tail_of begins in
      record {
        lines = m ∷ vs;
        others = others;
        begins = ap (λ (ls : List Text). m ∷ ls) later;
        replies = replies;
        answered = some_other says name old new l m vs replies x y fault p q (subst (λ (u : Text). AnswersSome says name old new (u ∷ vs) replies x y fault) (sym first) some);
      }

  pub front_whole : (kept piece g : Text) (x y : Replied) (fault : ClientFault) → IsBegun kept piece
      → AnswersFront says name old new (lines_of (kept ++ g)) x y fault → AnswersFront says name old new (lines_of (piece ++ g)) x y fault
  front_whole kept piece g x y fault begun answers = ⊎_elim
      (λ (same : kept ≡ piece). subst (λ (p : Text). AnswersFront says name old new (lines_of (p ++ g)) x y fault) same answers)
      (λ (long : AreLong kept piece).
      let on = first_goes_on g in
      subst (λ (ls : List Text). AnswersFront says name old new ls x y fault) (sym (on.lines piece begun.is_open long.some_piece))
      (front_long (kept ++ on.first) (piece ++ on.first) on.others x y fault (long.kept_long on.first) (long.piece_long on.first) answers.lines answers.others answers.replies
      (sym (on.lines kept long.unbroken long.some) ∙ answers.begins) answers.answered))
      (same_or_long kept piece begun)

  -- lines that were answered, where memory is refused behind them
  pub some_of_all : (all : List Text) (x y : Replied) (answers : AnswersAll says name old new all x y) → AnswersSome says name old new all answers.replies x y Memory
  some_of_all all x y answers = record {
    run = answers.run;
    let_through = answers.let_through;
    behind = (text_of answers.replies, [], sym (append-nil (text_of answers.replies)), answers.behind);
    counted = inr answers.counted;
    same_most = answers.same_most;
    cause = inl refl;
    whole = λ is. answers.behind;
    spent = λ is. absurd (memory_is_spent is);
  }

  pub front_of_all : (all : List Text) (x y : Replied) → AnswersAll says name old new all x y → AnswersFront says name old new all x y Memory
  front_of_all all x y answers = record { lines = all; others = []; begins = sym (append-nil all); replies = answers.replies; answered = some_of_all all x y answers }

  -- the same for a line alone
  pub answers_alone : (kept piece : Text) (x y : Replied) → IsBegun kept piece
      → AnswersAll says name old new (lines_of kept) x y → AnswersAll says name old new (lines_of piece) x y
  answers_alone kept piece x y begun answers =
      subst (λ (t : Text). AnswersAll says name old new (lines_of t) x y) (append-nil piece)
      (answers_whole says name old new kept piece [] x y begun (subst (λ (t : Text). AnswersAll says name old new (lines_of t) x y) (sym (append-nil kept)) answers))

  pub front_alone : (kept piece : Text) (x y : Replied) (fault : ClientFault) → IsBegun kept piece
      → AnswersFront says name old new (lines_of kept) x y fault → AnswersFront says name old new (lines_of piece) x y fault
  front_alone kept piece x y fault begun answers =
      subst (λ (t : Text). AnswersFront says name old new (lines_of t) x y fault) (append-nil piece)
      (front_whole kept piece [] x y fault begun (subst (λ (t : Text). AnswersFront says name old new (lines_of t) x y fault) (sym (append-nil kept)) answers))

  -- the same lines by another name
  pub front_of_same : (all same : List Text) (x y : Replied) (fault : ClientFault) → same ≡ all → AnswersFront says name old new all x y fault → AnswersFront says name old new same x y fault
  front_of_same all same x y fault e answers = subst (λ (ls : List Text). AnswersFront says name old new ls x y fault) (sym e) answers

module _ (says : ℕ → Bool → Type 0) (name : Text) (worker : Worker) where
  -- nothing was answered
  adds_none : (x : Counts) → Adds x x [] []
  adds_none x = record { lines_answered = omega arith; long_lines = omega arith; memory = omega arith; faults = refl }

  pub none_answered : (x : Replied) → AnswersAll says name worker worker [] x x
  none_answered x = record {
    replies = [];
    run = refl;
    let_through = λ line some within. absurd (omega (arith, some, within));
    behind = sym (append-nil x.unsent);
    counted = adds_none x.counts;
    same_most = refl;
  }

  -- a front of no lines
  pub front_none : (all : List Text) (x : Replied) → AnswersFront says name worker worker all x x Memory
  unfolding none_answered
  front_none all x = record { lines = []; others = all; begins = refl; replies = []; answered = some_of_all says name worker worker [] x x (none_answered x) }

-- ---- the last byte 10 of bytes

-- what stands after the last byte 10 has none
pub All-after_last : (bytes : Text) (n : ℕ) → NoneAfter (Passes (is_byte newline) bytes) 0 (length bytes) n → All (λ b. b ≢ newline) (drop (n + 1) bytes)
All-after_last bytes n h k d below is =
    let count = length-drop (n + 1) bytes in
    let within : n + 1 + k < length bytes = omega (arith, below, count) in
    h.after (n + 1 + k) (omega arith) within (eq-eqb _ 10 (get_or_default bytes (n + 1 + k) 0 d within ∙ sym (get_or-drop (n + 1) bytes k d) ∙ is))

-- and what stands up to it ends in one
pub ends_at_last : (bytes : Text) (n : ℕ) → n < length bytes → Passes (is_byte newline) bytes n → take (n + 1) bytes ≡ take n bytes ++ newline ∷ []
ends_at_last bytes n below is = take_more bytes n 0 below ∙ ap (λ b. take n bytes ++ b ∷ []) (eqb-true _ 10 is)

-- nothing is begun behind a byte 10
last_of-unbroken : (b : ℕ) (ls : List Text) (q : Text) → b ≢ newline → All (λ b. b ≢ newline) q → All (λ b. b ≢ newline) (with_byte b ls q).1
last_of-unbroken b [] q other unbroken = All-cons (λ b. b ≢ newline) b q other unbroken
last_of-unbroken b (l ∷ ls) q other unbroken = unbroken

last_piece-cons : (b : ℕ) (x : Text) (t : Bool) → (b == newline) ≡ t → All (λ b. b ≢ newline) (last_piece x)
    → All (λ b. b ≢ newline) (cond t ([] ∷ ended_lines x, last_piece x) (with_byte b (ended_lines x) (last_piece x))).1
last_piece-cons b x true e unbroken = unbroken
last_piece-cons b x false e unbroken = last_of-unbroken b (ended_lines x) (last_piece x) (λ is. true≢false (sym (eq-eqb b 10 is) ∙ e)) unbroken

last_piece-unbroken : (x : Text) → All (λ b. b ≢ newline) (last_piece x)
last_piece-unbroken [] = All-nil (λ b. b ≢ newline)
last_piece-unbroken (b ∷ x) = last_piece-cons b x (b == newline) refl (last_piece-unbroken x)

pub cut_at_newline : (x : Text) → cut (x ++ newline ∷ []) ≡ (ended_lines x ++ last_piece x ∷ [], [])
cut_at_newline x = cut-join x (newline ∷ []) (ended_lines x) (last_piece x ∷ []) (last_piece x) [] refl (cut-line (last_piece x) (last_piece-unbroken x))

-- ---- a line that is begun

begun_over : (kept piece bytes : Text) (count m : ℕ) → IsBegun kept piece → All (λ b. b ≢ newline) bytes → count ≡ min m (length bytes) → m ≡ line_limit + 1 - length kept
    → kept ++ take count bytes ≡ take (line_limit + 1) (piece ++ bytes)
begun_over kept piece bytes count m begun unbroken counted room = ⊎_elim
    (λ (short : length piece < line_limit + 1).
    let same : kept ≡ piece = begun.front ∙ take_all (line_limit + 1) piece (omega (arith, short)) in
    let long : length kept ≡ length piece = ap length same in
    let whole : take count bytes ≡ take m bytes = ⊎_elim
    (λ (all : length bytes < m).
    let c : count ≡ length bytes = omega (arith, all, counted) in
    take_all count bytes (omega (arith, c)) ∙ sym (take_all m bytes (omega (arith, all))))
    (λ (some : m ≤ length bytes). let c : count ≡ m = omega (arith, some, counted) in ap (λ (k : ℕ). take k bytes) c)
    (cases_lt (length bytes) m)
    in
    let limit : line_limit + 1 ≡ length piece + m = omega (arith, short, room, long) in
    ap (λ (x : Text). x ++ take count bytes) same ∙ ap (λ (x : Text). piece ++ x) whole ∙ sym (take-append-add piece bytes m) ∙ ap (λ (k : ℕ). take k (piece ++ bytes)) (sym limit))
    (λ (long : line_limit + 1 ≤ length piece).
    let full : length kept ≡ line_limit + 1 = ap length begun.front ∙ length-take-le (line_limit + 1) piece long in
    let none : count ≡ 0 = omega (arith, full, room, counted) in
    ap (λ (k : ℕ). kept ++ take k bytes) none ∙ append-nil kept ∙ begun.front ∙ sym (take-append-le (line_limit + 1) piece bytes long))
    (cases_lt (length piece) (line_limit + 1))

pub begun_more : (kept piece bytes : Text) (count m : ℕ) → IsBegun kept piece → All (λ b. b ≢ newline) bytes → count ≡ min m (length bytes) → m ≡ line_limit + 1 - length kept
    → IsBegun (kept ++ take count bytes) (piece ++ bytes)
begun_more kept piece bytes count m begun unbroken counted room = record {
  is_open = All-append (λ b. b ≢ newline) piece bytes begun.is_open unbroken;
  front = begun_over kept piece bytes count m begun unbroken counted room;
}

pub begun_none : IsBegun [] []
begun_none = record { is_open = All-nil (λ b. b ≢ newline); front = refl }

none_taken : (n : ℕ) (piece : Text) → 0 < n → [] ≡ take n piece → piece ≡ []
none_taken zero piece some front = absurd (omega (arith, some))
none_taken (suc n) [] some front = refl
none_taken (suc n) (b ∷ piece) some front = absurd (omega (arith, ap length front))

-- nothing is kept of no line alone
pub none_begun : (piece : Text) → IsBegun [] piece → piece ≡ []
none_begun piece begun = none_taken (line_limit + 1) piece (omega arith) begun.front

-- ---- bytes with a byte 10, split behind the last one
pub record SplitsAtLast (bytes lines rest : Text) : Type 0 where
  pub front : Text
  pub ends : lines ≡ front ++ newline ∷ []
  pub joins : bytes ≡ lines ++ rest
  pub unbroken : All (λ b. b ≢ newline) rest

-- the lines up to there, behind a piece
ended : (piece bytes lines rest : Text) → SplitsAtLast bytes lines rest → cut (piece ++ lines) ≡ (ended_lines (piece ++ lines), [])
ended piece bytes lines rest s =
    let e : piece ++ lines ≡ (piece ++ s.front) ++ newline ∷ [] = ap (λ (x : Text). piece ++ x) s.ends ∙ sym (append_assoc piece s.front (newline ∷ [])) in
    let c = cut_at_newline (piece ++ s.front) in
    let f : List Text × Text → Text = λ p. p.1 in
    let none : last_piece (piece ++ lines) ≡ [] = ap (λ (x : Text). last_piece x) e ∙ ap f c in
    ap (λ (q : Text). (ended_lines (piece ++ lines), q)) none

lines_ended : (piece bytes lines rest : Text) → SplitsAtLast bytes lines rest → lines_of (piece ++ lines) ≡ ended_lines (piece ++ lines)
lines_ended piece bytes lines rest s = lines_of-cut (piece ++ lines) (ended_lines (piece ++ lines)) [] (ended piece bytes lines rest s) ∙ append-nil (ended_lines (piece ++ lines))

pub cut_split : (piece bytes lines rest : Text) → SplitsAtLast bytes lines rest → cut (piece ++ bytes) ≡ (lines_of (piece ++ lines), rest)
cut_split piece bytes lines rest s =
    let e : piece ++ bytes ≡ (piece ++ lines) ++ rest = ap (λ (x : Text). piece ++ x) s.joins ∙ sym (append_assoc piece lines rest) in
    let all = cut-join (piece ++ lines) rest (ended_lines (piece ++ lines)) [] [] rest (ended piece bytes lines rest s) (cut-piece rest s.unbroken) in
    ap (λ (x : Text). cut x) e ∙ all ∙ ap (λ (ls : List Text). (ls, rest)) (append-nil (ended_lines (piece ++ lines)) ∙ sym (lines_ended piece bytes lines rest s))

pub ended_split : (piece bytes lines rest : Text) → SplitsAtLast bytes lines rest → ended_lines (piece ++ bytes) ≡ lines_of (piece ++ lines)
ended_split piece bytes lines rest s = let f : List Text × Text → List Text = λ c. c.0 in ap f (cut_split piece bytes lines rest s)

pub split_of : (bytes lines rest : Text) (n : ℕ) → NoneAfter (Passes (is_byte newline) bytes) 0 (length bytes) n × Passes (is_byte newline) bytes n
    → lines ≡ take (n + 1) bytes → rest ≡ drop (n + 1) bytes → SplitsAtLast bytes lines rest
split_of bytes lines rest n found front back = record {
  front = take n bytes;
  ends = front ∙ ends_at_last bytes n found.0.high found.1;
  joins = sym (take-append-drop (n + 1) bytes) ∙ ap (λ (x : Text). x ++ drop (n + 1) bytes) (sym front) ∙ ap (λ (x : Text). lines ++ x) (sym back);
  unbroken = rw back (All-after_last bytes n found.0);
}
