-- Of services that are well formed, the text alone decides whether they are equal and which comes first.
use Rattle.std.proofs.Common.{◌≡◌, true, refl, sym, ap, ◌∙◌}
use Rattle.std.specs.declared.cmp.Ordering.{Ordering}
use Rattle.std.specs.declared.cmp.Ordering.TheVariants.{Less, Equal, Greater}
use Rattle.std.specs.Ordering.{nat_cmp, is_eq, ordering_then}
use Rattle.std.specs.Cmp.{both_ways}
use Rattle.std.specs.Cmp.Lexicographic.{slice_cmp, texts_ties, nat_list_cmp_total}
use Rattle.std.proofs.lemmas.Cmp.{tied_itself, lists_total}
use Rattle.std.proofs.lemmas.Slice.Eq.{slice_eq-Decides, bytes_eq-Decides}
use Rattle.lost_spec.specs.Text.{same_text}
use Rattle.lost_spec.specs.Service.{Service, is_service, same_service, service_text}
use Rattle.lost_urn.specs.Order.{service_cmp, same_service_is}
use Rattle.lost_urn.proofs.ReadLemmas.{same_from_text}

-- services have the same text where they have the same labels
pub same_service_by_text : (s u : Service) → is_service s ≡ true → is_service u ≡ true → same_text (service_text s) (service_text u) ≡ same_service s u
same_service_by_text s u hs hu =
    both_ways (same_text (service_text s) (service_text u)) (same_service s u)
    (λ same.
    (slice_eq-Decides bytes_eq-Decides s u (same_service s u) refl).1
    (same_from_text s u hs hu ((bytes_eq-Decides (service_text s) (service_text u)).0 same)))
    (λ same. (bytes_eq-Decides (service_text s) (service_text u)).1 (ap service_text (same_service_is s u same)))

-- the order of the texts is the order of services
pub service_cmp_by_text : (s u : Service) → is_service s ≡ true → is_service u ≡ true → slice_cmp nat_cmp (service_text s) (service_text u) ≡ service_cmp s u
service_cmp_by_text s u hs hu = by (slice_cmp nat_cmp (service_text s) (service_text u)) refl
  where
    by : (o : Ordering) → slice_cmp nat_cmp (service_text s) (service_text u) ≡ o → slice_cmp nat_cmp (service_text s) (service_text u) ≡ service_cmp s u
    by Less is = is ∙ sym (ap (λ o. ordering_then o (slice_cmp (slice_cmp nat_cmp) s u)) is)
    by Equal is =
        let same : service_text s ≡ service_text u = (bytes_eq-Decides (service_text s) (service_text u)).0 (texts_ties (service_text s) (service_text u) ∙ ap is_eq is) in
        let tied : slice_cmp (slice_cmp nat_cmp) s u ≡ Equal = ap (λ v. slice_cmp (slice_cmp nat_cmp) s v) (sym (same_from_text s u hs hu same)) ∙ tied_itself (lists_total nat_list_cmp_total) s in
        is ∙ sym (ap (λ o. ordering_then o (slice_cmp (slice_cmp nat_cmp) s u)) is ∙ tied)
    by Greater is = is ∙ sym (ap (λ o. ordering_then o (slice_cmp (slice_cmp nat_cmp) s u)) is)
