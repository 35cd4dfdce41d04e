-- The numbers of refusals (own).
use Rattle.std.specs.Prelude.{ℕ}
use Rattle.lost_worker.specs.declared.faults.CacheError.{CacheError}
use Rattle.lost_worker.specs.declared.faults.CacheError.TheVariants.{Capacity, Memory}

abbrev pub cache_code : CacheError → ℕ
cache_code Capacity = 1
cache_code Memory = 2
