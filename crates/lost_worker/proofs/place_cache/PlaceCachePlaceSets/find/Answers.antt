-- Where a set goes to the front the same sets are kept, and the set that is found is one of them.
use Rattle.std.proofs.Common.{refl, nat_eq}
use Rattle.std.proofs.lemmas.Option.{IfSome_then}
use Rattle.lost_location.specs.Place.{place_of}
use Rattle.lost_desk.specs.Sets.{entry, KeepsTheSame}
use Rattle.lost_worker.specs.Cached.{IsKeptIn}
use Rattle.lost_worker.proofs.CacheLemmas.{promoted_keeps}
use Rattle.lost_worker.proofs.place_cache.PlaceCachePlaceSets.find.Goals as goal
use Rattle.lost_worker.proofs.place_cache.PlaceCachePlaceSets.find.Goals.{then-is_some, else-is_some}

pub returns-then-not-self : goal.returns-then-not-self
returns-then-not-self g c = (
  (refl, λ _. tt, rw c.promote-self.ensures.entries (promoted_keeps (nat_eq c.hash_one-self.result) c.args.self.now.cache.entries)),
  record { stays = tt; kept = tt },
)

pub returns : goal.returns
returns g c =
    let pairs = c.args.self.now.cache.entries in
    let promotes : KeepsTheSame (IsKeptIn pairs) (IsKeptIn c.promote-self.new.self.entries) =
    rw c.promote-self.ensures.entries (promoted_keeps (nat_eq c.hash_one-self.result) pairs) in
    let stays : KeepsTheSame (IsKeptIn pairs) (IsKeptIn c.if-is_some.self.cache.entries) =
    elim c.if-is_some.branch [
      | then-is_some w ↦ rw w.self-is promotes
      | else-is_some w ↦ rw w.self-is promotes
    ] in (
      (refl, λ _. tt, stays),
      record {
        stays = tt;
        kept = IfSome_then c.set_of-2.result c.set_of-2.ensures (λ set k. (stays (entry c.args.edition (place_of c.args.place.now) set.now)).0 k);
      },
    )
