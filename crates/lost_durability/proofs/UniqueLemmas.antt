-- A file keeps one body at most.
use Rattle.std.proofs.Common.{◌≡◌, ◌≢◌, ◌⊎◌, inl, inr, ⊎_elim, ℕ, ◌+◌, ◌-◌, ◌<◌, ◌≤◌, Bool, true, false, not, ◌&&◌, ◌==◌, List, [], ◌∷◌, ◌++◌, length, take, drop, get_or, All, codes, refl, sym, ◌∙◌, ap, subst, arith, append_assoc, take-append-drop}
use Rattle.std.proofs.lemmas.Bool.{true≢false, cases_order, cases_eq}
use Rattle.std.proofs.lemmas.Bool.Decides.{Decides-eqb}
use Rattle.std.proofs.lemmas.Slice.Eq.{starts_is}
use Rattle.std.proofs.lemmas.List.{length-append, get_or-take}
use Rattle.std.proofs.lemmas.List.Elements.{All-get_or}
use Rattle.std.proofs.Math.Seq.{get_or-append_seam, take-append-add, take-append_seam}
use Rattle.lost_spec.specs.Text.{Text}
use Rattle.lost_lines.specs.Cutting.{newline, cut, ended_lines, last_piece}
use Rattle.lost_lines.proofs.CuttingLemmas.{ended_lines-append}
use Rattle.lost_journal.specs.Format.{is_commit, is_passed, gate_of_line, opened, closed, with_gate, IsBody, HasGate, Keeps}
use Rattle.lost_journal.proofs.BodyLemmas.{cut-gate}
use Rattle.lost_journal.proofs.FrontLemmas.{take_take}

-- a commit's line is one with any byte behind it
commit_longer : (line more : Text) → is_commit line ≡ true → is_commit (line ++ more) ≡ true
commit_longer line more is =
    let start = codes "{\"commit\":" in
    let begins : line ≡ start ++ drop 10 line = (starts_is Decides-eqb line start (is_commit line) refl).0 is in
    (starts_is Decides-eqb (line ++ more) start (is_commit (line ++ more)) refl).1 (drop 10 line ++ more)
    (ap (λ (l : Text). l ++ more) begins ∙ append_assoc start (drop 10 line) more)

-- no reader goes on behind a commit's line whose gate is closed
stops_closed : (line : Text) → is_commit line ≡ true → is_passed (line ++ closed ∷ []) ≡ false
stops_closed line is =
    let long : length (line ++ closed ∷ []) ≡ length line + 1 = length-append line (closed ∷ []) in
    let at : length (line ++ closed ∷ []) - 1 ≡ length line = omega arith in
    let gate : gate_of_line (line ++ closed ∷ []) ≡ closed = ap (λ (n : ℕ). get_or (line ++ closed ∷ []) n 0) at ∙ get_or-append_seam line closed [] 0 in
    ap (λ (b : Bool). not (b && not (gate_of_line (line ++ closed ∷ []) == opened))) (commit_longer line (closed ∷ []) is)
    ∙ ap (λ (n : ℕ). not (true && not (n == opened))) gate

-- so no body has one inside
not_inside : (body rest : Text) → IsBody body → IsBody (with_gate body closed ++ rest) → ⊥
not_inside body rest first second =
    let line = last_piece body ++ closed ∷ [] in
    let cuts = cut-gate body closed (λ same. omega arith) in
    let lines : ended_lines (with_gate body closed ++ rest) ≡ (ended_lines body ++ line ∷ []) ++ ended_lines rest =
    ended_lines-append (with_gate body closed) rest (ended_lines body ++ line ∷ []) [] cuts in
    let whole : (ended_lines body ++ line ∷ []) ++ ended_lines rest ≡ ended_lines body ++ line ∷ ended_lines rest = append_assoc (ended_lines body) (line ∷ []) (ended_lines rest) in
    let P : Text → Type 0 = λ l. is_passed l ≡ true in
    let all : All P (ended_lines body ++ line ∷ ended_lines rest) = subst (All P) (lines ∙ whole) second.passed in
    let long : length (ended_lines body ++ line ∷ ended_lines rest) ≡ length (ended_lines body) + length (line ∷ ended_lines rest) = length-append (ended_lines body) (line ∷ ended_lines rest) in
    let there : P (get_or (ended_lines body ++ line ∷ ended_lines rest) (length (ended_lines body)) []) = All-get_or P (ended_lines body ++ line ∷ ended_lines rest) (length (ended_lines body)) [] (omega arith) all in
    let passed : is_passed line ≡ true = subst P (get_or-append_seam (ended_lines body) line (ended_lines rest) []) there in
    true≢false (sym passed ∙ stops_closed (last_piece body) first.last)

-- of two bodies that a file keeps, none is shorter
not_shorter : (c a b : Text) → IsBody a → IsBody b → Keeps c a → Keeps c b → length a < length b → ⊥
not_shorter c a b first second keeps_a keeps_b less = elim (cases_eq (length b) (length a + 1)) [
  | inl next ↦
      let in_a : get_or (take (length a + 2) c) (length a + 1) 0 ≡ newline =
      ap (λ (l : Text). get_or l (length a + 1) 0) keeps_a ∙ ap (λ (l : Text). get_or l (length a + 1) 0) (sym (append_assoc a (closed ∷ []) (newline ∷ []))) ∙ ap (λ (n : ℕ). get_or ((a ++ closed ∷ []) ++ newline ∷ []) n 0) (sym (length-append a (closed ∷ []))) ∙ get_or-append_seam (a ++ closed ∷ []) newline [] 0 in
      let in_b : get_or (take (length b + 2) c) (length b) 0 ≡ closed = ap (λ (l : Text). get_or l (length b) 0) keeps_b ∙ get_or-append_seam b closed (newline ∷ []) 0 in
      let here : get_or c (length a + 1) 0 ≡ newline = sym (get_or-take (length a + 2) c (length a + 1) 0 (omega arith)) ∙ in_a in
      let there : get_or c (length b) 0 ≡ closed = sym (get_or-take (length b + 2) c (length b) 0 (omega arith)) ∙ in_b in
      let same : newline ≡ closed = sym here ∙ ap (λ (n : ℕ). get_or c n 0) (sym next) ∙ there in
      omega (arith, same)
  | inr apart ↦
      let short : length a + 2 ≤ length b = omega arith in
      let b_is : take (length b) c ≡ b =
      sym (take_take (length b) (length b + 2) c (omega arith)) ∙ ap (take (length b)) keeps_b ∙ take-append_seam b (closed ∷ newline ∷ []) in
      let front : take (length a + 2) b ≡ with_gate a closed =
      ap (take (length a + 2)) (sym b_is) ∙ take_take (length a + 2) (length b) c short ∙ keeps_a in
      let whole : b ≡ with_gate a closed ++ drop (length a + 2) b =
      sym (take-append-drop (length a + 2) b) ∙ ap (λ (l : Text). l ++ drop (length a + 2) b) front in
      not_inside a (drop (length a + 2) b) first (subst IsBody whole second)
]

pub one_body : (c a b : Text) → IsBody a → IsBody b → Keeps c a → Keeps c b → a ≡ b
one_body c a b first second keeps_a keeps_b = elim (cases_order (length a) (length b)) [
  | inl same ↦
      sym (take-append_seam a (closed ∷ newline ∷ [])) ∙ ap (take (length a)) (sym keeps_a)
      ∙ ap (λ (n : ℕ). take (length a) (take (n + 2) c)) same
      ∙ ap (take (length a)) keeps_b
      ∙ ap (λ (n : ℕ). take n (with_gate b closed)) same
      ∙ take-append_seam b (closed ∷ newline ∷ [])
  | inr (inl less) ↦ absurd (not_shorter c a b first second keeps_a keeps_b less)
  | inr (inr more) ↦ absurd (not_shorter c b a second first keeps_b keeps_a more)
]
