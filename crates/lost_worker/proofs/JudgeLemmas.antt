-- A line of a desk is answered by what was read of it.
use Rattle.std.proofs.Common.{◌≡◌, ◌≢◌, false, Option, None, Some, Result, Ok, Err, refl, ap, ◌∙◌}
use Rattle.lost_spec.specs.declared.faults.MappingError.TheVariants.{BadSource, BadSourceId, BadStamp, BadExpires, BadService, BadUri, BadNumber, BadRegion, RegionMissing, TooLarge, BadKey, Memory}
use Rattle.lost_spec.specs.Text.{Text}
use Rattle.lost_spec.specs.Book.{Limits}
use Rattle.lost_reading.specs.declared.desk.DeskFault.{DeskFault}
use Rattle.lost_reading.specs.declared.desk.DeskFault.TheVariants.{BadLine, Mapping as MappingFault}
use Rattle.lost_reading.specs.declared.desk.DeskLine.{DeskLine}
use Rattle.lost_reading.specs.Desk.{Order, desk_fault_code}
use Rattle.lost_reading.specs.DeskLines.{GivesLine}
use Rattle.lost_lines.specs.Run.{Reply}
use Rattle.lost_json.specs.Stream.{Lists, Unmarked, ShortOfMemory, refused_text}
use Rattle.lost_json.specs.Step.{IsAnswered}
use Rattle.lost_worker.specs.Desking.{AnswersRead, IsJudged, desk_terms}

module _ (limits : Limits) (line : Text) (reply : Reply) where
  abbrev pub IsRefused : DeskFault → Type 0
  IsRefused fault = reply ≡ record { text = refused_text (desk_fault_code fault); is_internal_error = false }

  -- a line that is no desk line is refused
  pub no_desk_line_step : (old new : Lists) → reply ≡ record { text = refused_text 1; is_internal_error = false } → new ≡ old
      → IsJudged (desk_terms limits) old line None reply new
  no_desk_line_step old new said unchanged = record {
    step = record {
      mark = Unmarked;
      may_have = tt;
      text_is = ap (λ (r : Reply). r.text) said;
      memory_is = ap (λ (r : Reply). r.is_internal_error) said;
      lists_are = unchanged;
    };
    was_read = λ is. absurd (cc);
  }

  module _ (old new : Lists) (meant : Option (Result Order DeskFault)) where
    abbrev StepTo : Type 0
    StepTo = IsAnswered (desk_terms limits) old line meant reply new

    fault_step : (fault : DeskFault) → meant ≡ Some (Err fault) → IsRefused fault → new ≡ old → StepTo
    fault_step fault is said unchanged = record {
      mark = Unmarked;
      may_have = tt;
      text_is = ap (λ (r : Reply). r.text) said ∙ rw is refl;
      memory_is = ap (λ (r : Reply). r.is_internal_error) said;
      lists_are = unchanged ∙ rw is refl;
    }

    -- there was no memory to read it
    unread_step : IsRefused (MappingFault Memory) → new ≡ old → StepTo
    unread_step said unchanged = record {
      mark = ShortOfMemory;
      may_have = tt;
      text_is = ap (λ (r : Reply). r.text) said;
      memory_is = ap (λ (r : Reply). r.is_internal_error) said;
      lists_are = unchanged;
    }

    refused_step : (fault : DeskFault) → (fault ≢ MappingFault Memory → meant ≡ Some (Err fault)) → IsRefused fault → new ≡ old → StepTo
    refused_step BadLine is said unchanged = fault_step BadLine (is (λ same. absurd (cc))) said unchanged
    refused_step (MappingFault BadSource) is said unchanged = fault_step (MappingFault BadSource) (is (λ same. absurd (cc))) said unchanged
    refused_step (MappingFault BadSourceId) is said unchanged = fault_step (MappingFault BadSourceId) (is (λ same. absurd (cc))) said unchanged
    refused_step (MappingFault BadStamp) is said unchanged = fault_step (MappingFault BadStamp) (is (λ same. absurd (cc))) said unchanged
    refused_step (MappingFault BadExpires) is said unchanged = fault_step (MappingFault BadExpires) (is (λ same. absurd (cc))) said unchanged
    refused_step (MappingFault BadService) is said unchanged = fault_step (MappingFault BadService) (is (λ same. absurd (cc))) said unchanged
    refused_step (MappingFault BadUri) is said unchanged = fault_step (MappingFault BadUri) (is (λ same. absurd (cc))) said unchanged
    refused_step (MappingFault BadNumber) is said unchanged = fault_step (MappingFault BadNumber) (is (λ same. absurd (cc))) said unchanged
    refused_step (MappingFault BadRegion) is said unchanged = fault_step (MappingFault BadRegion) (is (λ same. absurd (cc))) said unchanged
    refused_step (MappingFault RegionMissing) is said unchanged = fault_step (MappingFault RegionMissing) (is (λ same. absurd (cc))) said unchanged
    refused_step (MappingFault TooLarge) is said unchanged = fault_step (MappingFault TooLarge) (is (λ same. absurd (cc))) said unchanged
    refused_step (MappingFault BadKey) is said unchanged = fault_step (MappingFault BadKey) (is (λ same. absurd (cc))) said unchanged
    refused_step (MappingFault Memory) is said unchanged = unread_step said unchanged

    -- what was read of a line is what it means, so it is answered as the line
    pub read_step : (read : Result (Option DeskLine) DeskFault) → GivesLine read meant → AnswersRead read (desk_terms limits) old line reply new → StepTo
    read_step (Ok None) given answered = rw given answered.step
    read_step (Ok (Some found)) given answered = rw given answered.step
    read_step (Err fault) given answered = refused_step fault given answered.0 answered.1
