-- The order of tokens: that of their texts, byte by byte (own).
use Rattle.std.specs.Prelude.{refl, bytes_eq}
use Rattle.std.specs.Ordering.{nat_cmp, as_partial_cmp}
use Rattle.std.specs.Cmp.{IsPartialOrder, partial_order_from_agreeing_total}
use Rattle.std.specs.Cmp.Lexicographic.{slice_cmp, texts_ties, nat_list_cmp_total}

pub token_partial : IsPartialOrder bytes_eq (as_partial_cmp (slice_cmp nat_cmp))
token_partial = partial_order_from_agreeing_total (slice_cmp nat_cmp) nat_list_cmp_total (λ a b. refl) texts_ties
