-- Which services are in the chain of a service.
use Rattle.std.proofs.Common.{◌≡◌, ◌≢◌, IsTrue, [], ◌∷◌, length, drop, Decides, refl}
use Rattle.std.specs.List.{list_any}
use Rattle.std.proofs.lemmas.Bool.{false≢true}
use Rattle.std.proofs.lemmas.Bool.Decides.{same_from_decides}
use Rattle.std.proofs.lemmas.Slice.Eq.{bytes_eq-Decides, starts_is}
use Rattle.lost_spec.specs.Service.{Service, is_service, is_at_or_below, same_service, chain}
use Rattle.lost_spec.specs.FindLaws.{IsOfChain}
use Rattle.lost_spec.proofs.ChainLemmas.{chain-Decides}

-- a service has a label
some_label : (u : Service) → IsTrue (is_service u) → u ≢ []
some_label [] none e = false≢true none
some_label (x ∷ u) h e = cc e

-- a service is of the chain of another just where that one is at it or below it
is_at_or_below-Decides : (u s : Service) → IsTrue (is_service u) → Decides (is_at_or_below s u) (IsOfChain u s)
is_at_or_below-Decides u s h =
    let begins = starts_is bytes_eq-Decides s u (is_at_or_below s u) refl in
    (λ e. record { some_label = some_label u h; begins = (drop (length u) s, begins.0 e) }, λ c. begins.1 c.begins.0 c.begins.1)

pub is_in_chain : (u s : Service) → IsTrue (is_service u) → is_at_or_below s u ≡ list_any (λ v. same_service u v) (chain s)
is_in_chain u s h = same_from_decides (is_at_or_below s u) (list_any (λ v. same_service u v) (chain s)) (is_at_or_below-Decides u s h) (chain-Decides u s)
