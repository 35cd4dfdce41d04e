-- Mappings that are not live change no answer.
use Rattle.std.specs.Prelude.{◌≡◌, Bool, true, false, not, ◌&&◌, if◌then◌else◌, List, [], ◌∷◌, ◌++◌, map, Option, Some, None}
use Rattle.std.specs.List.{list_any}
use Rattle.std.proofs.Common.{refl, sym, ap, ◌∙◌}
use Rattle.std.proofs.lemmas.Bool.{and_parts}
use Rattle.lost_spec.specs.declared.answers.AnswerError.TheVariants.{Loop}
use Rattle.lost_spec.specs.Place.{Place, address_at}
use Rattle.lost_spec.specs.Text.{Text}
use Rattle.lost_spec.specs.Service.{Service, same_service, chain}
use Rattle.lost_spec.specs.Civic.{Pairs}
use Rattle.lost_spec.specs.Moment.{Instant}
use Rattle.lost_spec.specs.Mapping.{Mapping, is_live}
use Rattle.lost_spec.specs.Book.{Book, has_key}
use Rattle.lost_spec.specs.Find.{holds, serves, at, defaults, first_with, finding, Finding, FoundHolders, FoundDefaults, FoundNothing, found, is_implemented, warnings_of}
use Rattle.lost_spec.specs.Validation.{of_service, validation}
use Rattle.lost_spec.specs.Services.{children_in, services, all_services, by_key}
use Rattle.lost_spec.specs.Request.{Request, FindService, ListServicesByLocation, ListServices, GetServiceBoundary, FindServiceResponse, ListServicesByLocationResponse, ListServicesResponse, Errors}
use Rattle.lost_spec.specs.Answer.{location_used, at_location, shown, validation_for, error_of, find_reply, boundary_reply, path_of, is_loop, answer_by_kind, answer}
use Rattle.lost_spec.specs.AnswerLaws.{without_expired, ExpiredDoNotMatter}
use Rattle.lost_spec.proofs.FilterLemmas.{filter-filter, list_any-kept, find-filter}

module _ (b : Book) (t : Instant) where
  abbrev lives : Mapping → Bool
  lives m = is_live m t

  -- ---- what is asked of a book, of the live alone

  serves_live : (u : Service) (m : Mapping) → serves m t u ≡ true → lives m ≡ true
  serves_live u m e = (and_parts (is_live m t) (same_service m.service u) e).0

  at_live : (l : Place) (u : Service) → at (without_expired b t) t l u ≡ at b t l u
  at_live l u =
      filter-filter (λ m. serves m t u && (not m.is_default && holds m l)) lives
      (λ m e. serves_live u m (and_parts (serves m t u) (not m.is_default && holds m l) e).0) b.mappings

  defaults_live : (u : Service) → defaults (without_expired b t) t u ≡ defaults b t u
  defaults_live u = filter-filter (λ m. serves m t u && m.is_default) lives (λ m e. serves_live u m (and_parts (serves m t u) m.is_default e).0) b.mappings

  of_service_live : (u : Service) → of_service (without_expired b t) t u ≡ of_service b t u
  of_service_live u = filter-filter (λ m. serves m t u) lives (serves_live u) b.mappings

  found_live : (l : Place) (s : Service) → found (without_expired b t) t l s ≡ found b t l s
  unfolding found
  found_live l s = λ i. finding (first_with (λ u. at_live l u i) (chain s)) (first_with (λ u. defaults_live u i) (chain s))

  is_implemented_live : (s : Service) → is_implemented (without_expired b t) t s ≡ is_implemented b t s
  unfolding is_implemented
  is_implemented_live s =
      list_any-kept (λ m. is_live m t && list_any (λ u. same_service m.service u) (chain s)) lives
      (λ m e. (and_parts (is_live m t) (list_any (λ u. same_service m.service u) (chain s)) e).0) b.mappings

  validation_live : (u : Service) (ms : List Mapping) (address : Pairs) → validation (without_expired b t) t u ms address ≡ validation b t u ms address
  unfolding validation
  validation_live u ms address = rw (of_service_live u) refl

  services_live : (l : Place) (q : Option Service) → services (without_expired b t) t l q ≡ services b t l q
  unfolding services
  services_live l q =
      ap (children_in q)
      (filter-filter (λ m. is_live m t && (not m.is_default && holds m l)) lives (λ m e. (and_parts (is_live m t) (not m.is_default && holds m l) e).0) b.mappings)

  all_services_live : (q : Option Service) → all_services (without_expired b t) t q ≡ all_services b t q
  unfolding all_services
  all_services_live q = ap (children_in q) (filter-filter lives lives (λ m e. e) b.mappings)

  by_key_live : (key : Text) → by_key (without_expired b t) t key ≡ by_key b t key
  unfolding by_key
  by_key_live key = find-filter (λ m. is_live m t && has_key m key) lives (λ m e. (and_parts (is_live m t) (has_key m key) e).0) b.mappings

  -- ---- answers

  validation_for_live : (o : Option Pairs) (validate : Bool) (u : Service) (ms : List Mapping) → validation_for (without_expired b t) t o validate u ms ≡ validation_for b t o validate u ms
  validation_for_live None validate u ms = refl
  validation_for_live (Some address) true u ms = ap Some (validation_live u ms address)
  validation_for_live (Some address) false u ms = refl

  find_reply_live : (s : Service) (id : Text) (l : Place) (validate by_value : Bool) (path : List Text) (f : Finding)
      → find_reply (without_expired b t) t s id l validate by_value path f ≡ find_reply b t s id l validate by_value path f
  find_reply_live s id l validate by_value path (FoundHolders u ms) =
      ap (λ v. FindServiceResponse b.edits id v (map (shown l by_value) ms) path (warnings_of s l validate (FoundHolders u ms))) (validation_for_live (address_at l) validate u ms)
  find_reply_live s id l validate by_value path (FoundDefaults u ms) = refl
  find_reply_live s id l validate by_value path FoundNothing = ap (λ i. Errors b.edits (error_of i)) (is_implemented_live s)

  reply_live : (s : Service) (validate by_value : Bool) (path : List Text) (id : Text) (l : Place)
      → find_reply (without_expired b t) t s id l validate by_value path (found (without_expired b t) t l s) ≡ find_reply b t s id l validate by_value path (found b t l s)
  reply_live s validate by_value path id l =
      ap (find_reply (without_expired b t) t s id l validate by_value path) (found_live l s) ∙ find_reply_live s id l validate by_value path (found b t l s)

  answer_by_kind_live : (path : List Text) (request : Request) → answer_by_kind (without_expired b t) t path request ≡ answer_by_kind b t path request
  answer_by_kind_live path (FindService s locations validate by_value asked) =
      λ i. at_location b.edits (location_used locations) (λ id l. reply_live s validate by_value path id l i)
  answer_by_kind_live path (ListServicesByLocation q locations asked) =
      λ i. at_location b.edits (location_used locations) (λ id l. ListServicesByLocationResponse b.edits id path (services_live l q i))
  answer_by_kind_live path (ListServices q asked) = ap (ListServicesResponse b.edits path) (all_services_live q)
  answer_by_kind_live path (GetServiceBoundary key asked) = ap (boundary_reply b.edits path) (by_key_live key)

  answer_live : (name : Text) (request : Request) → answer (without_expired b t) name t request ≡ answer b name t request
  unfolding answer
  answer_live name request =
      ap (λ reply. if is_loop name (path_of request) then Errors b.edits Loop else reply) (answer_by_kind_live (path_of request ++ name ∷ []) request)

-- the law `ExpiredDoNotMatter`
pub expired_do_not_matter_lem : ExpiredDoNotMatter
expired_do_not_matter_lem b name t request = sym (answer_live b t name request)
