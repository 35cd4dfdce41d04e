-- The mapping of a key, from the place that a search gives.
use Rattle.std.specs.Prelude.{◌≡◌, ℕ, List, Option, Some, None, position, slice_get}
use Rattle.std.proofs.Common.{refl, sym, ◌∙◌}
use Rattle.lost_book.proofs.PositionLemmas.{find_at_position}
use Rattle.lost_spec.specs.Text.{Text}
use Rattle.lost_spec.specs.Moment.{Instant}
use Rattle.lost_spec.specs.Mapping.{Mapping}
use Rattle.lost_spec.specs.Book.{Book}
use Rattle.lost_spec.specs.Services.{has_live_key, by_key}
use Rattle.lost_spec.specs.Request.{GetServiceBoundaryResponse}
use Rattle.lost_spec.specs.Answer.{boundary_reply}

module _ (b : Book) (t : Instant) (key : Text) (o : Option ℕ) (found : o ≡ position (has_live_key t key) b.mappings) where
  -- where the search gives none, no mapping has the key
  pub by_key-none : o ≡ None → by_key b t key ≡ None
  unfolding by_key
  by_key-none none = find_at_position (has_live_key t key) b.mappings None (sym none ∙ found)

  -- where it gives a place, the mapping there has it
  pub by_key-some : (place : ℕ) (m : Mapping) → o ≡ Some place → slice_get b.mappings place ≡ Some m → by_key b t key ≡ Some m
  unfolding by_key
  by_key-some place m some there = find_at_position (has_live_key t key) b.mappings (Some place) (sym some ∙ found) ∙ there

-- the reply with the regions of a copy of the mapping that was found
pub boundary_reply-some : (edits edition : ℕ) (path shown : List Text) (held copy : Mapping) (o : Option Mapping) → edition ≡ edits → shown ≡ path → copy ≡ held → o ≡ Some held
    → GetServiceBoundaryResponse edition shown copy.regions ≡ boundary_reply edits path o
boundary_reply-some edits edition path shown held copy o same_edition same_path same found = rw (same_edition, same_path, same, found) refl
