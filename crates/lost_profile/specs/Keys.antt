-- What the keys of two lists have in common (own).
use Rattle.std.specs.Prelude.{List, Contains}

-- one key stands in both lists
pub record SharesKey {K : Type 0} (xs : List K) (ys : List K) : Type 0 where
  pub key : K
  pub in_left : Contains xs key
  pub in_right : Contains ys key
