-- Which mappings come back from their lines as they are. (Own.)
use Rattle.std.specs.Prelude.{◌≡◌, Some, None, Ok}
use Rattle.std.specs.List.{AllByRecursion}
use Rattle.std.specs.List.Sorted.{IsStrictlySortedBy}
use Rattle.std.specs.Ordering.{nat_cmp}
use Rattle.std.specs.Cmp.Lexicographic.{slice_cmp}
use Rattle.lost_spec.specs.Text.{Text}
use Rattle.lost_spec.specs.Civic.{Pairs, names_of}
use Rattle.lost_spec.specs.Mapping.{Parts, Mapping, parts_fault, mapping_of}
use Rattle.lost_spec.specs.Moment.{Stamp}
use Rattle.lost_spec.specs.Book.{Identity, Publish, Replace, Withdraw}
use Rattle.lost_reading.specs.Desk.{Stage, desk_line}
use Rattle.lost_export.specs.Export.{publish_json, withdraw_json}

-- each name of the pairs comes before the next by its bytes, as in each object that is read
abbrev pub HasAscendingNames : Pairs → Type 0
HasAscendingNames pairs = IsStrictlySortedBy (slice_cmp nat_cmp) (names_of pairs)

-- parts that are not refused make the mapping, and the names of its patterns ascend
pub record IsBuilt (m : Mapping) : Type 0 where
  pub parts : Parts
  pub accepted : parts_fault parts ≡ None
  pub made : m ≡ mapping_of parts
  pub ascending : AllByRecursion HasAscendingNames m.regions.patterns

-- the line of the mapping says to publish it
abbrev pub ReadsBack : Mapping → Type 0
ReadsBack m = desk_line (publish_json m) ≡ Some (Ok (Stage (Publish m)))

-- the line of a withdrawal says to withdraw this identity at this stamp
abbrev pub WithdrawalReadsBack : Identity → Stamp → Type 0
WithdrawalReadsBack identity stamp = desk_line (withdraw_json identity stamp) ≡ Some (Ok (Stage (Withdraw identity stamp)))

-- each mapping that a desk line publishes, or replaces another by, is built
abbrev pub PublishedAreBuilt : Type 0
PublishedAreBuilt = (line : Text) (m : Mapping) → desk_line line ≡ Some (Ok (Stage (Publish m))) → IsBuilt m

abbrev pub ReplacingAreBuilt : Type 0
ReplacingAreBuilt = (line : Text) (m : Mapping) → desk_line line ≡ Some (Ok (Stage (Replace m))) → IsBuilt m
