-- How what is kept grows by a commit.
use Rattle.std.proofs.Common.{◌≡◌, ◌≢◌, ◌⊎◌, ⊎_elim, inl, inr, codes, ℕ, ◌+◌, ◌-◌, ◌≤◌, Bool, true, false, cond, not, ◌&&◌, ◌==◌, List, [], ◌∷◌, ◌++◌, length, take, drop, get_or, All, sym, refl, ◌∙◌, ap, ap₂, subst, arith, append_assoc}
use Rattle.std.proofs.lemmas.Bool.{eqb-false, cases_eq}
use Rattle.std.proofs.lemmas.Bool.Decides.{Decides-eqb}
use Rattle.std.proofs.lemmas.Slice.Eq.{starts_is}
use Rattle.std.proofs.lemmas.List.{length-append, length-take-le, append-nil, take_all, take_more}
use Rattle.std.proofs.lemmas.List.Elements.{All-nil, All-cons, All-append, All-push, All-take, All-weaker}
use Rattle.std.proofs.Math.Seq.{get_or-append_seam, take-append-add, take-append_seam}
use Rattle.lost_spec.specs.Text.{Text}
use Rattle.lost_lines.specs.Cutting.{newline, with_byte, cut, ended_lines, last_piece}
use Rattle.lost_lines.proofs.CuttingLemmas.{cut-append, cut-join, cut-piece, cut-line}
use Rattle.lost_journal.specs.Format.{is_commit, is_passed, gate_of_line, opened, closed, with_gate, with_commit, IsBody, AreEdits, Keeps}
use Rattle.lost_journal.specs.Reading.{IsPassing, IsFound}
use Rattle.lost_journal.specs.State.{body_in}
use Rattle.lost_journal.proofs.FrontLemmas.{take_take}

-- the last piece of bytes has no byte 10
pub unbroken_last : (x : Text) → All (λ b. b ≢ newline) (last_piece x)
unbroken_last [] = All-nil (λ b. b ≢ newline)
unbroken_last (b ∷ x) = by_byte b x (b == newline) refl (unbroken_last x)
  where
    in_front : (b : ℕ) (ls : List Text) (last : Text) → (b == newline) ≡ false → All (λ b. b ≢ newline) last → All (λ b. b ≢ newline) (with_byte b ls last).1
    in_front b [] last other h = All-cons (λ b. b ≢ newline) b last (λ same. eqb-false b newline other same) h
    in_front b (l ∷ ls) last other h = h

    by_byte : (b : ℕ) (x : Text) (t : Bool) → (b == newline) ≡ t → All (λ b. b ≢ newline) (last_piece x) → All (λ b. b ≢ newline) (cond t ([] ∷ ended_lines x, last_piece x) (with_byte b (ended_lines x) (last_piece x))).1
    by_byte b x true e h = h
    by_byte b x false e h = in_front b (ended_lines x) (last_piece x) e h

-- a body with its gate is whole lines, of which the gate ends the last
pub cut-gate : (body : Text) (g : ℕ) → g ≢ newline → cut (with_gate body g) ≡ (ended_lines body ++ (last_piece body ++ g ∷ []) ∷ [], [])
cut-gate body g other =
    let line = last_piece body ++ g ∷ [] in
    let joined : last_piece body ++ g ∷ newline ∷ [] ≡ line ++ newline ∷ [] = sym (append_assoc (last_piece body) (g ∷ []) (newline ∷ [])) in
    let unbroken : All (λ b. b ≢ newline) line = All-push (λ b. b ≢ newline) (last_piece body) g (unbroken_last body) other in
    cut-join body (g ∷ newline ∷ []) (ended_lines body) (line ∷ []) (last_piece body) [] refl (ap cut joined ∙ cut-line line unbroken)

-- a line with an open gate is passed
passed_open : (front : Text) → is_passed (front ++ opened ∷ []) ≡ true
passed_open front =
    let long : length (front ++ opened ∷ []) ≡ length front + 1 = length-append front (opened ∷ []) in
    let at : length (front ++ opened ∷ []) - 1 ≡ length front = omega arith in
    let gate : gate_of_line (front ++ opened ∷ []) ≡ opened = ap (λ (n : ℕ). get_or (front ++ opened ∷ []) n 0) at ∙ get_or-append_seam front opened [] 0 in
    ap (λ (g : ℕ). not (is_commit (front ++ opened ∷ []) && not (g == opened))) gate ∙ never (is_commit (front ++ opened ∷ []))
  where
    never : (b : Bool) → not (b && false) ≡ true
    never true = refl
    never false = refl

passed_edit : (line : Text) → is_commit line ≡ false → is_passed line ≡ true
passed_edit line is = ap (λ (b : Bool). not (b && not (gate_of_line line == opened))) is

-- bytes behind whole lines are cut by themselves
cut-whole : (x y : Text) (ls : List Text) → cut x ≡ (ls, []) → cut (x ++ y) ≡ (ls ++ ended_lines y, last_piece y)
cut-whole x y ls is = cut-join x y ls (ended_lines y) [] (last_piece y) is refl

cut-edits : (bytes : Text) → AreEdits bytes → cut bytes ≡ (ended_lines bytes, [])
cut-edits bytes are = ap (λ (p : Text). (ended_lines bytes, p)) are.whole

-- the lines of a body with one commit more
pub cut-commit : (body edits commit : Text) → AreEdits edits → All (λ b. b ≢ newline) commit
    → cut (with_commit body edits commit) ≡ ((ended_lines body ++ (last_piece body ++ opened ∷ []) ∷ []) ++ ended_lines edits, commit)
cut-commit body edits commit are unbroken =
    let ls = ended_lines body ++ (last_piece body ++ opened ∷ []) ∷ [] in
    let inner : cut (edits ++ commit) ≡ (ended_lines edits ++ [], commit) = cut-join edits commit (ended_lines edits) [] [] commit (cut-edits edits are) (cut-piece commit unbroken) in
    let plain : cut (edits ++ commit) ≡ (ended_lines edits, commit) = inner ∙ ap (λ (l : List Text). (l, commit)) (append-nil (ended_lines edits)) in
    cut-join (with_gate body opened) (edits ++ commit) ls (ended_lines edits) [] commit (cut-gate body opened (λ same. omega arith)) plain

pub body_grows : (body edits commit : Text) → IsBody body → AreEdits edits → All (λ b. b ≢ newline) commit → is_commit commit ≡ true → IsBody (with_commit body edits commit)
body_grows body edits commit b are unbroken is =
    let whole = cut-commit body edits commit are unbroken in
    let P : Text → Type 0 = λ line. is_passed line ≡ true in
    let lines : ended_lines (with_commit body edits commit) ≡ (ended_lines body ++ (last_piece body ++ opened ∷ []) ∷ []) ++ ended_lines edits = ap (λ (p : List Text × Text). p.0) whole in
    let last : last_piece (with_commit body edits commit) ≡ commit = ap (λ (p : List Text × Text). p.1) whole in
    let before : All P (ended_lines body ++ (last_piece body ++ opened ∷ []) ∷ []) = All-push P (ended_lines body) (last_piece body ++ opened ∷ []) b.passed (passed_open (last_piece body)) in
    let new : All P (ended_lines edits) = All-weaker (λ line. is_commit line ≡ false) P passed_edit (ended_lines edits) are.edits in
    record {
      passed = subst (All P) (sym lines) (All-append P (ended_lines body ++ (last_piece body ++ opened ∷ []) ∷ []) (ended_lines edits) before new);
      last = ap is_commit last ∙ is;
    }

-- edits with one more
pub edits_grow : (edits line : Text) → AreEdits edits → All (λ b. b ≢ newline) line → is_commit line ≡ false → AreEdits (edits ++ (line ++ newline ∷ []))
edits_grow edits line are unbroken is =
    let whole : cut (edits ++ (line ++ newline ∷ [])) ≡ (ended_lines edits ++ line ∷ [], []) = cut-join edits (line ++ newline ∷ []) (ended_lines edits) (line ∷ []) [] [] (cut-edits edits are) (cut-line line unbroken) in
    let P : Text → Type 0 = λ l. is_commit l ≡ false in
    record {
      whole = ap (λ (p : List Text × Text). p.1) whole;
      edits = subst (All P) (sym (ap (λ (p : List Text × Text). p.0) whole)) (All-push P (ended_lines edits) line are.edits is);
    }

pub no_edits : AreEdits []
no_edits = record { whole = refl; edits = All-nil (λ line. is_commit line ≡ false) }

-- reading goes on behind a line
pub passing_more : (read line : Text) → IsPassing read → All (λ b. b ≢ newline) line → is_passed line ≡ true → IsPassing (read ++ (line ++ newline ∷ []))
passing_more read line passing unbroken is =
    let before : cut read ≡ (ended_lines read, []) = ap (λ (p : Text). (ended_lines read, p)) passing.whole in
    let whole : cut (read ++ (line ++ newline ∷ [])) ≡ (ended_lines read ++ line ∷ [], []) = cut-join read (line ++ newline ∷ []) (ended_lines read) (line ∷ []) [] [] before (cut-line line unbroken) in
    let P : Text → Type 0 = λ l. is_passed l ≡ true in
    record {
      whole = ap (λ (p : List Text × Text). p.1) whole;
      passed = subst (All P) (sym (ap (λ (p : List Text × Text). p.0) whole)) (All-push P (ended_lines read) line passing.passed is);
    }

pub nothing_passed : IsPassing []
nothing_passed = record { whole = refl; passed = All-nil (λ line. is_passed line ≡ true) }

-- a line that is passed, by its kind
pub passed_by_kind : (line : Text) → (is_commit line ≡ false) ⊎ (gate_of_line line ≡ opened) → is_passed line ≡ true
passed_by_kind line either = ⊎_elim (passed_edit line) (λ gate. ap (λ (g : ℕ). not (is_commit line && not (g == opened))) gate ∙ never (is_commit line)) either
  where
    never : (b : Bool) → not (b && false) ≡ true
    never true = refl
    never false = refl

-- a commit's line without its closed gate
commit_front : (line front : Text) → is_commit line ≡ true → line ≡ front ++ closed ∷ [] → is_commit front ≡ true
commit_front line front is ends =
    let start = codes "{\"commit\":" in
    let begins : line ≡ start ++ drop 10 line = (starts_is Decides-eqb line start (is_commit line) refl).0 is in
    let rest = drop 10 line in
    let first : length line ≡ 10 + length rest = ap length begins ∙ length-append start rest in
    let second : length line ≡ length front + 1 = ap length ends ∙ length-append front (closed ∷ []) in
    elim (cases_eq (length front) 9) [
      | inl short ↦
          let here : get_or line 9 0 ≡ closed = ap (λ (l : Text). get_or l 9 0) ends ∙ ap (λ (n : ℕ). get_or (front ++ closed ∷ []) n 0) (sym short) ∙ get_or-append_seam front closed [] 0 in
          let there : get_or line 9 0 ≡ 58 = ap (λ (l : Text). get_or l 9 0) begins in
          let no : ⊥ = omega (arith, here, there) in
          absurd no
      | inr long ↦
          let m : length front ≡ 10 + (length front - 10) = omega arith in
          let whole : front ≡ start ++ take (length front - 10) rest =
          sym (take-append_seam front (closed ∷ []))
          ∙ ap (λ (l : Text). take (length front) l) (sym ends ∙ begins)
          ∙ ap (λ (n : ℕ). take n (start ++ rest)) m
          ∙ take-append-add start rest (length front - 10) in
          (starts_is Decides-eqb front start (is_commit front) refl).1 (take (length front - 10) rest) whole
    ]

-- what is kept ends where the first closed gate was read
pub body_found : (read line front : Text) → IsPassing read → All (λ b. b ≢ newline) line → is_commit line ≡ true → line ≡ front ++ closed ∷ [] → IsBody (read ++ front)
body_found read line front passing unbroken is ends =
    let before : cut read ≡ (ended_lines read, []) = ap (λ (p : Text). (ended_lines read, p)) passing.whole in
    let open_front : All (λ b. b ≢ newline) front = All-front front closed (subst (All (λ b. b ≢ newline)) ends unbroken) in
    let inner : cut (read ++ front) ≡ (ended_lines read ++ [], front) = cut-join read front (ended_lines read) [] [] front before (cut-piece front open_front) in
    let P : Text → Type 0 = λ l. is_passed l ≡ true in
    record {
      passed = subst (All P) (sym (ap (λ (p : List Text × Text). p.0) inner ∙ append-nil (ended_lines read))) passing.passed;
      last = ap is_commit (ap (λ (p : List Text × Text). p.1) inner) ∙ commit_front line front is ends;
    }
  where
    All-front : (front : Text) (b : ℕ) → All (λ b. b ≢ newline) (front ++ b ∷ []) → All (λ b. b ≢ newline) front
    All-front front b all = subst (All (λ b. b ≢ newline)) (take-append_seam front (b ∷ [])) (All-take (λ b. b ≢ newline) (length front) (front ++ b ∷ []) all)

-- a commit's line is not short
pub commit_long : (line : Text) → is_commit line ≡ true → 10 ≤ length line
commit_long line is =
    let start = codes "{\"commit\":" in
    let begins : line ≡ start ++ drop 10 line = (starts_is Decides-eqb line start (is_commit line) refl).0 is in
    let first : length line ≡ 10 + length (drop 10 line) = ap length begins ∙ length-append start (drop 10 line) in
    omega arith

-- what a file keeps, where the first closed gate was read, and its last piece
pub record FoundAt (seen line : Text) (kept : ℕ) : Type 0 where
  pub found : IsFound seen kept
  pub piece : last_piece (body_in seen kept) ≡ take (length line - 1) line

-- what a file keeps, where the first closed gate was read
pub found_at : (seen read line : Text) (kept : ℕ) → kept ≤ length seen → take kept seen ≡ read ++ (line ++ newline ∷ []) → IsPassing read → All (λ b. b ≢ newline) line → is_commit line ≡ true → gate_of_line line ≡ closed → FoundAt seen line kept
found_at seen read line kept within is passing unbroken commit gate =
    let long = commit_long line commit in
    let n = length line - 1 in
    let up : n + 1 ≡ length line = omega arith in
    let front = take n line in
    let ends : line ≡ front ++ closed ∷ [] =
    sym (take_all (n + 1) line (omega arith)) ∙ take_more line n 0 (omega arith) ∙ ap (λ (b : ℕ). front ++ b ∷ []) gate in
    let body = read ++ front in
    let whole : take kept seen ≡ with_gate body closed =
    is ∙ ap (λ (l : Text). read ++ (l ++ newline ∷ [])) ends ∙ ap (λ (l : Text). read ++ l) (append_assoc front (closed ∷ []) (newline ∷ [])) ∙ sym (append_assoc read front (closed ∷ newline ∷ [])) in
    let size : kept ≡ length body + 2 = sym (length-take-le kept seen within) ∙ ap length whole ∙ length-append body (closed ∷ newline ∷ []) in
    let less : kept - 2 ≡ length body = omega arith in
    let same : take (kept - 2) seen ≡ body =
    sym (take_take (kept - 2) kept seen (omega arith)) ∙ ap (take (kept - 2)) whole ∙ ap (λ (k : ℕ). take k (with_gate body closed)) less ∙ take-append_seam body (closed ∷ newline ∷ []) in
    let before : cut read ≡ (ended_lines read, []) = ap (λ (p : Text). (ended_lines read, p)) passing.whole in
    let open_front : All (λ b. b ≢ newline) front = All-take (λ b. b ≢ newline) n line unbroken in
    let inner : cut (read ++ front) ≡ (ended_lines read ++ [], front) = cut-join read front (ended_lines read) [] [] front before (cut-piece front open_front) in
    record {
      found = record {
        body = subst IsBody (sym same) (body_found read line front passing unbroken commit ends);
        gate = subst (Keeps seen) (sym same) (ap (λ (k : ℕ). take k seen) (sym size) ∙ whole);
      };
      piece = ap last_piece same ∙ ap (λ (p : List Text × Text). p.1) inner;
    }
