-- The set is kept, or nothing is changed.
use Rattle.std.proofs.Common.{nat_eq}
use Rattle.lost_worker.proofs.CacheLemmas.{put_or_not}
use Rattle.lost_worker.proofs.place_cache.PlaceCachePlaceSets.keep.Goals as goal

pub returns : goal.returns
returns g c = put_or_not nat_eq c.args.self.now.cache c.args.self.now.asked (record { edition = c.args.edition; place = c.args.place; set = c.args.set })
    c.put-dropped.result c.put-dropped.new.self c.put-dropped.ensures.entries c.put-dropped.ensures.err
