-- A `for` over the parts of a text, which a closure cuts at the dots.
use Rattle.std.specs.Slice.Iter as slice
use Rattle.std.proofs.Common.{◌≡◌, ℕ, ◌<◌, Bool, false, nat_eq, Option, None, Some, List, map, take, length, get_or}
use Rattle.std.specs.declared.slice.Split.{Split}
use Rattle.std.specs.Fn.{CalledAt}
use Rattle.std.specs.Iterator.{Yields}
use Rattle.std.proofs.lemmas.Iterator.{YieldsList}
use Rattle.std.proofs.lemmas.Iterator.Splits.{YieldsList-from_slice_split}
use Rattle.std.proofs.lemmas.Iterator.Consumers.{YieldsList-so_far, YieldsList-turn, YieldsList-end}
use denote.Param.Members.{Mut}
use denote.Ref.{Bor}
use Rattle.lost_spec.specs.Text.{Text}
use Rattle.lost_spec.specs.Service.{split_at_dots}

module _ {F : Type 0} (g : Mut F (Bor ℕ × Unit {0}) Bool) (f : F) (text : Text) (xs : List (Bor Text)) (s t u : Split ℕ F) (yielded : Yields (slice.split_steps g) s xs t)
    (r : Option (Bor Text)) (step : slice.split_steps g t r u) (cuts : (b : ℕ) (answer : Bool) (q : F) → CalledAt g f b answer q → (q ≡ f) × (answer ≡ nat_eq b 46))
    (rest : slice.split_rest s ≡ text) (done : slice.split_done s ≡ false) (closure : slice.split_callee s ≡ f) where
  run : YieldsList (slice.split_steps g) (λ x. x.now) s (split_at_dots text)
  run = YieldsList-from_slice_split g (λ b. nat_eq b 46) text rest done closure cuts

  -- the next part, after those that came before it
  pub part_is_next : (label : Bor Text) → r ≡ Some label → (map (λ x. x.now) xs ≡ take (length xs) (split_at_dots text)) × (length xs < length (split_at_dots text)) × (label.now ≡ get_or (split_at_dots text) (length xs) label.now)
  part_is_next label is = let turn = YieldsList-turn run xs t yielded r u label is step in (YieldsList-so_far run xs t yielded, turn.0, turn.1)

  -- all parts have come
  pub parts_are_all : r ≡ None → (map (λ x. x.now) xs ≡ split_at_dots text) × (length xs ≡ length (split_at_dots text))
  parts_are_all is = YieldsList-end run xs t yielded r u is step
