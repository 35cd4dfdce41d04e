-- A pair of a list, as the numbers and the mappings have it.
use Rattle.std.proofs.Common.{◌≡◌, ℕ, ◌<◌, List, length, get_or, sym, ap, subst, ◌∙◌}
use Rattle.std.proofs.lemmas.List.{get_or-map, length-map}
use Rattle.lost_spec.specs.Mapping.{Mapping}
use Rattle.lost_tables.specs.Numbered.{Numbered, numbered}

pub number_there : (pairs : List (ℕ × Mapping)) (i n : ℕ) (m : Mapping) (k : Numbered) → numbered pairs ≡ k
    → i < length k.mappings → n ≡ get_or k.numbers i n → n ≡ (get_or pairs i (n, m)).0
number_there pairs i n m k is within at =
    at
    ∙ sym (ap (λ k. get_or k.numbers i n) is)
    ∙ get_or-map (λ p. p.0) pairs i (n, m) n
    (subst (λ l. i < l) (length-map pairs (λ p. p.1)) (subst (λ k. i < length k.mappings) (sym is) within))
