-- A law of instants: they are in order.
use Rattle.std.specs.Prelude.{◌≡◌, IsTrue, IsFalse, ◌⊎◌}
use Rattle.lost_spec.specs.Moment.{Instant, is_earlier}

-- of two instants one is earlier than the other, or they are one; none is earlier than itself; and what is earlier than an earlier one is earlier
pub record AreInOrder : Type 0 where
  pub one_of_three : (a b : Instant) → IsTrue (is_earlier a b) ⊎ ((a ≡ b) ⊎ IsTrue (is_earlier b a))
  pub not_itself : (a : Instant) → IsFalse (is_earlier a a)
  pub onward : (a b c : Instant) → IsTrue (is_earlier a b) → IsTrue (is_earlier b c) → IsTrue (is_earlier a c)

abbrev pub InstantsAreOrdered : Type 0
InstantsAreOrdered = AreInOrder
