-- The order of services.
use Rattle.std.specs.Prelude.{◌≡◌, true, refl}
use Rattle.std.specs.declared.cmp.Ordering.{Ordering}
use Rattle.std.specs.Ordering.{nat_cmp, is_eq, on, then_cmp, as_partial_cmp}
use Rattle.std.specs.Hash as fed
use Rattle.std.specs.Cmp.{IsTotalOrder, IsPartialOrder, both_ways, second_so, tied_then, partial_order_from_agreeing_total}
use Rattle.std.specs.Cmp.Lexicographic.{slice_cmp, lists_ties, texts_ties, nat_list_cmp_total}
use Rattle.std.proofs.Common.{sym, ap, ◌∙◌}
use Rattle.std.proofs.lemmas.Cmp.{then_total, on_total, lists_total, tied_itself}
use Rattle.std.proofs.lemmas.Slice.Eq.{slice_eq-Decides, bytes_eq-Decides}
use Rattle.lost_spec.specs.Service.{Service, same_service, service_text}

-- the order of the texts, byte by byte; lists of labels that no service has may share a text, and there the labels decide (own)
abbrev pub service_cmp : Service → Service → Ordering
service_cmp = then_cmp (on service_text (slice_cmp nat_cmp)) (slice_cmp (slice_cmp nat_cmp))

-- ---- the laws of that order, and of equality

pub service_total : IsTotalOrder service_cmp
service_total = then_total (on_total service_text nat_list_cmp_total) (lists_total nat_list_cmp_total)

-- services with the same labels are one
pub same_service_is : (s u : Service) → same_service s u ≡ true → s ≡ u
same_service_is s u same = (slice_eq-Decides bytes_eq-Decides s u (same_service s u) refl).0 same

-- they are the ones that neither comes before the other
pub service_ties : (s u : Service) → same_service s u ≡ is_eq (service_cmp s u)
service_ties s u =
    both_ways (same_service s u) (is_eq (service_cmp s u))
    (λ same. ap (λ v. is_eq (service_cmp s v)) (sym (same_service_is s u same)) ∙ ap is_eq (tied_itself service_total s))
    (λ tied.
    lists_ties (slice_cmp nat_cmp) texts_ties s u
    ∙ second_so (is_eq (slice_cmp nat_cmp (service_text s) (service_text u))) (is_eq (slice_cmp (slice_cmp nat_cmp) s u))
    (tied_then (slice_cmp nat_cmp (service_text s) (service_text u)) (slice_cmp (slice_cmp nat_cmp) s u) ∙ tied))

pub service_partial : IsPartialOrder same_service (as_partial_cmp service_cmp)
service_partial = partial_order_from_agreeing_total service_cmp service_total (λ s u. refl) service_ties

-- services with the same labels are hashed alike
pub service_hash : (s u : Service) → same_service s u ≡ true → fed.str (service_text s) ≡ fed.str (service_text u)
service_hash s u same = ap (λ v. fed.str (service_text v)) (same_service_is s u same)
