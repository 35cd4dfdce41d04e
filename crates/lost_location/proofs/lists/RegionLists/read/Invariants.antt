use Rattle.std.proofs.Common.{◌≡◌, ◌++◌, length}
use Rattle.std.specs.List.{list_all}
use Rattle.std.specs.Vec.Iter.{into_iter_items, into_iter_len}
use Rattle.lost_spec.specs.Place.{is_region, by_kind}
use Rattle.lost_location.specs.Region.{regions_of}
use Rattle.lost_location.proofs.lists.RegionLists.read.Given as goal

abbrev pub invariant-loop-region : goal.invariant-loop-region
invariant-loop-region l =
    let left = regions_of (into_iter_items l.region-iterator) in
    let all = regions_of (into_iter_items l.initial.region-iterator) in
    record {
      polygons : l.read.polygons ++ (by_kind left).polygons ≡ (by_kind all).polygons;
      patterns : l.read.patterns ++ (by_kind left).patterns ≡ (by_kind all).patterns;
      token_sets : l.read.token_sets ++ (by_kind left).token_sets ≡ (by_kind all).token_sets;
      passed : list_all is_region all ≡ list_all is_region left;
      len : into_iter_len l.region-iterator ≡ length (into_iter_items l.region-iterator);
    }
