-- Answers to findService that differ in nothing but their edition.
use Rattle.std.proofs.Common.{◌≡◌, ℕ, Bool, true, false, not, ◌&&◌, if◌then◌else◌, List, [], ◌∷◌, ◌++◌, Option, Some, None, map, refl, ap, ◌∙◌}
use Rattle.lost_spec.specs.declared.answers.AnswerError.TheVariants.{Loop, SrsInvalid}
use Rattle.lost_spec.specs.Place.{Place, kind_of, has_system, place_in, address_at}
use Rattle.lost_spec.specs.Text.{Text}
use Rattle.lost_spec.specs.Service.{Service}
use Rattle.lost_spec.specs.Civic.{Pairs}
use Rattle.lost_spec.specs.Moment.{Instant}
use Rattle.lost_spec.specs.Mapping.{Mapping}
use Rattle.lost_spec.specs.Book.{Book, after}
use Rattle.lost_spec.specs.Find.{Finding, FoundHolders, FoundDefaults, FoundNothing, found, warnings_of}
use Rattle.lost_spec.specs.Request.{Location, FindService, Reply, FindServiceResponse, Errors}
use Rattle.lost_spec.specs.Answer.{location_used, at_place, at_location, shown, validation_for, error_of, find_reply, is_loop, answer_by_kind, answer}
use Rattle.lost_spec.specs.FindLaws.{IsOfChain, IsWhatIsThere, with_edition, EditsElsewhereDoNotMatter}
use Rattle.lost_spec.proofs.FindLemmas.{found_is_there_lem}
use Rattle.lost_spec.proofs.ElsewhereLemmas.{SameOfChain, SameOfChain-after, found_same, is_implemented_same, validation_same}

-- ---- any replies at a location

-- replies at a place, and at a location, that are the same but for the edition
at_place-with_edition : (n k : ℕ) (o : Option Place) (reply other : Place → Reply) → ((l : Place) → other l ≡ with_edition n (reply l)) → at_place n o other ≡ with_edition n (at_place k o reply)
at_place-with_edition n k None reply other same = refl
at_place-with_edition n k (Some l) reply other same = same l

at_location-with_edition : (n k : ℕ) (o : Option Location) (reply other : Text → Place → Reply) → ((id : Text) (l : Place) → other id l ≡ with_edition n (reply id l))
    → at_location n o other ≡ with_edition n (at_location k o reply)
at_location-with_edition n k None reply other same = refl
at_location-with_edition n k (Some location) reply other same = by (has_system (kind_of location.profile) && not location.srs_known) (place_in (kind_of location.profile) location.body)
  where
    by : (b : Bool) (o : Option Place) → (if b then Errors n SrsInvalid else at_place n o (other location.id)) ≡ with_edition n (if b then Errors k SrsInvalid else at_place k o (reply location.id))
    by true o = refl
    by false o = at_place-with_edition n k o (reply location.id) (other location.id) (same location.id)

-- ---- replies to findService

module _ (s : Service) (b c : Book) (same : SameOfChain s b.mappings c.mappings) where
  -- the validation of a reply
  validation_for_same : (t : Instant) (o : Option Pairs) (validate : Bool) (u : Service) → IsOfChain u s → (ms : List Mapping) → validation_for c t o validate u ms ≡ validation_for b t o validate u ms
  validation_for_same t None validate u of_chain ms = refl
  validation_for_same t (Some address) true u of_chain ms = ap Some (validation_same s b c same t u of_chain ms address)
  validation_for_same t (Some address) false u of_chain ms = refl

  -- the replies for one finding
  find_reply_same : (t : Instant) (id : Text) (l : Place) (validate by_value : Bool) (path : List Text) (f : Finding) → IsWhatIsThere b t l s f
      → find_reply c t s id l validate by_value path f ≡ with_edition c.edits (find_reply b t s id l validate by_value path f)
  find_reply_same t id l validate by_value path (FoundHolders u ms) there =
      ap (λ v. FindServiceResponse c.edits id v (map (shown l by_value) ms) path (warnings_of s l validate (FoundHolders u ms))) (validation_for_same t (address_at l) validate u there.of_chain ms)
  find_reply_same t id l validate by_value path (FoundDefaults u ms) there = refl
  find_reply_same t id l validate by_value path FoundNothing there = ap (λ i. Errors c.edits (error_of i)) (is_implemented_same s b c same t)

  -- the replies for what is found
  reply_same : (t : Instant) (validate by_value : Bool) (path : List Text) (id : Text) (l : Place)
      → find_reply c t s id l validate by_value path (found c t l s) ≡ with_edition c.edits (find_reply b t s id l validate by_value path (found b t l s))
  reply_same t validate by_value path id l =
      ap (find_reply c t s id l validate by_value path) (found_same s b c same t l) ∙ find_reply_same t id l validate by_value path (found b t l s) (found_is_there_lem b t l s)

  -- the answers
  answer_same : (name : Text) (t : Instant) (locations : List Location) (validate by_value : Bool) (path : List Text)
      → answer c name t (FindService s locations validate by_value path) ≡ with_edition c.edits (answer b name t (FindService s locations validate by_value path))
  unfolding answer
  answer_same name t locations validate by_value path = by (is_loop name path)
    where
      by : (loop : Bool)
          → (if loop then Errors c.edits Loop else answer_by_kind c t (path ++ name ∷ []) (FindService s locations validate by_value path))
          ≡ with_edition c.edits (if loop then Errors b.edits Loop else answer_by_kind b t (path ++ name ∷ []) (FindService s locations validate by_value path))
      by true = refl
      by false =
          at_location-with_edition c.edits b.edits (location_used locations)
          (λ id l. find_reply b t s id l validate by_value (path ++ name ∷ []) (found b t l s))
          (λ id l. find_reply c t s id l validate by_value (path ++ name ∷ []) (found c t l s))
          (reply_same t validate by_value (path ++ name ∷ []))

-- the law `EditsElsewhereDoNotMatter`
pub edits_elsewhere_do_not_matter_lem : EditsElsewhereDoNotMatter
edits_elsewhere_do_not_matter_lem b e name t s locations validate by_value path elsewhere = answer_same s b (after b e) (SameOfChain-after s b e elsewhere) name t locations validate by_value path
