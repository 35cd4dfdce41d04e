-- The order of instants.
use Rattle.std.specs.Prelude.{◌≡◌, Bool, true, false, IsTrue, IsFalse, ◌⊎◌}
use Rattle.std.proofs.Common.{refl, arith, inl, inr}
use Rattle.std.proofs.lemmas.Int.{ints}
use Rattle.lost_spec.specs.Moment.{Instant, is_earlier}
use Rattle.lost_spec.specs.MomentLaws.{InstantsAreOrdered}

-- neither is earlier: the days are one, and the nanoseconds are
same_instant : (a b : Instant) → IsFalse (is_earlier a b) → IsFalse (is_earlier b a) → a ≡ b
same_instant a b h k =
    let day : a.day ≡ b.day = grind (arith, ints) in
    let nanosecond : a.nanosecond ≡ b.nanosecond = grind (arith, ints) in
    λ i. record { day = day i; nanosecond = nanosecond i }

one_of_three_lem : (a b : Instant) → IsTrue (is_earlier a b) ⊎ ((a ≡ b) ⊎ IsTrue (is_earlier b a))
one_of_three_lem a b = by (is_earlier a b) (is_earlier b a) (same_instant a b)
  where
    by : (s t : Bool) → (IsFalse s → IsFalse t → a ≡ b) → IsTrue s ⊎ ((a ≡ b) ⊎ IsTrue t)
    by true t same = inl refl
    by false true same = inr (inr refl)
    by false false same = inr (inl (same refl refl))

-- the law `InstantsAreOrdered`
pub instants_are_ordered_lem : InstantsAreOrdered
instants_are_ordered_lem = record {
  one_of_three = one_of_three_lem;
  not_itself = λ a. grind (arith, ints);
  onward = λ a b c h k. grind (arith, ints);
}
