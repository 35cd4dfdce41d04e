-- What is kept is of the edition and the place.
use Rattle.std.proofs.Common.{◌≡◌, ℕ, List, rules, sym, ◌∙◌}
use Rattle.lost_spec.specs.Place.{Place as Seen}
use Rattle.lost_location.specs.Place.{place_of}
use Rattle.lost_location.proofs.EqualPlaces.{equal_places}
use Rattle.lost_desk.specs.Sets.{entry}
use Rattle.test_desks.proofs.counting.Counting.set_of.Goals as goal

same_entry : (a b : ℕ) (p q : Seen) (s t : List ℕ) → a ≡ b → p ≡ q → s ≡ t → entry a p s ≡ entry b q t
same_entry a b p q s t one two three = cc (one, two, three)

pub returns-then-eq : goal.returns-then-eq
returns-then-eq c =
    let kept = c.in-Some.kept in
    let of : kept.edition ≡ c.args.edition = search rules in
    let same : place_of kept.place ≡ place_of c.args.place.now = equal_places kept.place c.args.place.now (sym c.eq.ensures ∙ c.if-eq.true) in
    rw c.in-Some.is
    (same_entry c.args.edition kept.edition (place_of c.args.place.now) (place_of kept.place) c.as_slice.result.now kept.set.items (sym of) (sym same) c.as_slice.ensures.value)
