-- What is found is of the place and the edition.
use Rattle.std.proofs.Common.{◌≡◌, true, nat_eq, rules}
use Rattle.lost_location.specs.contracts.place.PlacePartialEq.TheImpl.{ghosts}
use Rattle.lost_worker.proofs.CacheLemmas.{found_is_kept}
use Rattle.lost_worker.proofs.place_cache.PlaceCache.set_of.Goals as goal

pub returns-then-eq : goal.returns-then-eq
returns-then-eq g c =
    let kept = c.in_ok-kept.kept.now in
    let of : kept.edition ≡ c.args.edition = search rules in
    let at : ghosts.eq kept.place c.args.place.now ≡ true = search rules in
    found_is_kept (nat_eq c.args.self.now.asked) c.args.self.now.cache.entries c.args.place.now kept c.args.edition c.as_slice.result.now (search rules) of at c.as_slice.ensures.value
