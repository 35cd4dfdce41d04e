-- Lemmas on runs of what answers lines.
use Rattle.std.proofs.Common.{◌≡◌, ◌⊎◌, inl, inr, ℕ, ◌+◌, ◌<◌, ◌≤◌, Bool, true, cond, List, [], ◌∷◌, ◌++◌, length, subst, refl, ap, arith}
use Rattle.std.proofs.lemmas.Bool.{cases_eq}
use Rattle.std.proofs.lemmas.List.Sums.{sum_by-append}
use Rattle.std.proofs.lemmas.List.Concat.{flat_map-append}
use Rattle.lost_spec.specs.Text.{Text}
use Rattle.lost_lines.specs.Run.{Cut, Reply, Answers, Run, text_of, long_count, memory_count}
use Rattle.lost_lines.specs.Cutting.{is_long}
use Rattle.lost_lines.specs.Gate.{LetThrough, Through}

-- a run goes on by another
pub Run-append : {State : Type 0} (step : State → Cut → Reply → State → Type 0) (old mid new : State) (ls ms : List Text) (rs ss : List Reply)
    → Run step old ls rs mid → Run step mid ms ss new → Run step old (ls ++ ms) (rs ++ ss) new
Run-append step old mid new [] ms [] ss first second = subst (λ s. Run step s ms ss new) first second
Run-append step old mid new [] ms (r ∷ rs) ss first second = absurd first
Run-append step old mid new (l ∷ ls) ms [] ss first second = absurd first
Run-append step old mid new (l ∷ ls) ms (r ∷ rs) ss first second =
    (first.0, first.1, first.2, first.3, Run-append step first.1 mid new ls ms rs ss first.4 second)

-- one line that is answered is a run
pub Run-one : {State : Type 0} (step : State → Cut → Reply → State → Type 0) (old new : State) (line : Text) (reply : Reply) → Answers step old line reply new → Run step old (line ∷ []) (reply ∷ []) new
Run-one step old new line reply a = (a.0, new, a.1, a.2, refl)

pub text_of-append : (rs ss : List Reply) → text_of (rs ++ ss) ≡ text_of rs ++ text_of ss
text_of-append rs ss = flat_map-append (λ (reply : Reply). reply.text) rs ss

pub long_count-append : (ls ms : List Text) → long_count (ls ++ ms) ≡ long_count ls + long_count ms
long_count-append ls ms = sum_by-append (λ line. cond (is_long line) 1 0) ls ms

pub memory_count-append : (rs ss : List Reply) → memory_count (rs ++ ss) ≡ memory_count rs + memory_count ss
memory_count-append rs ss = sum_by-append (λ (reply : Reply). cond (reply.is_internal_error) 1 0) rs ss

module _ {State : Type 0} (says : ℕ → Bool → Type 0) (step : State → Cut → Reply → State → Type 0) where
  -- a line that the gate let through is answered
  pub Answers-through : (a b : ℕ × State) (line : Text) (reply : Reply) → b.0 ≡ a.0 + 1 → says (a.0 + 1) true → Answers step a.1 line reply b.1 → Answers (Through says step) a line reply b
  Answers-through a b line reply counted let_through answers = (answers.0, answers.1, (counted, rw counted let_through, answers.2))

  -- a run through a gate is a run
  pub Run-plain : (a b : ℕ × State) (ls : List Text) (rs : List Reply) → Run (Through says step) a ls rs b → Run step a.1 ls rs b.1
  Run-plain a b [] [] run = ap (λ (p : ℕ × State). p.1) run
  Run-plain a b [] (r ∷ rs) run = absurd run
  Run-plain a b (l ∷ ls) [] run = absurd run
  Run-plain a b (l ∷ ls) (r ∷ rs) (cut, next, is_cut, (counted, said, does), rest) = (cut, next.1, is_cut, does, Run-plain next b ls rs rest)

  -- a line is the first of some, or comes later
  said_of_first : (line first : ℕ) → says first true → (line ≡ first) ⊎ (line ≡ first → ⊥) → ((line ≡ first → ⊥) → says line true) → says line true
  said_of_first line first said (inl same) later = rw same said
  said_of_first line first said (inr other) later = later other

  -- and the gate let each of its lines through
  said_of_each : (a b : ℕ × State) (ls : List Text) (rs : List Reply) → Run (Through says step) a ls rs b → (line : ℕ) → a.0 < line → line ≤ a.0 + length ls → says line true
  said_of_each a b [] [] run line low high = absurd (omega (arith, low, high))
  said_of_each a b [] (r ∷ rs) run line low high = absurd run
  said_of_each a b (l ∷ ls) [] run line low high = absurd run
  said_of_each a b (l ∷ ls) (r ∷ rs) (cut, next, is_cut, (counted, said, does), rest) line low high =
      said_of_first line next.0 said (cases_eq line next.0) (λ other. said_of_each next b ls rs rest line (omega (arith, low, counted, other)) (omega (arith, high, counted)))

  pub LetThrough-from_run : (a b : ℕ × State) (ls : List Text) (rs : List Reply) → a.0 ≡ 0 → Run (Through says step) a ls rs b → LetThrough says (length ls)
  LetThrough-from_run a b ls rs none run line low high = said_of_each a b ls rs run line (omega (arith, none, low)) (omega (arith, none, high))
