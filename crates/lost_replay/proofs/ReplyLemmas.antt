-- No request is answered `internalError`.
use Rattle.std.proofs.Common.{◌≡◌, ◌≢◌, ℕ, Bool, true, false, if◌then◌else◌, List, [], ◌∷◌, ◌++◌, Option, None, Some, ◌==◌, get_or, refl, ap}
use Rattle.std.proofs.lemmas.Bool.{eqb-false}
use Rattle.serde_json.proofs.OnLiterals.{serde_json_on_literals}
use Rattle.lost_spec.specs.declared.answers.AnswerError.{AnswerError}
use Rattle.lost_spec.specs.declared.answers.AnswerError.TheVariants.{NotFound}
use Rattle.lost_spec.specs.Place.{Place}
use Rattle.lost_spec.specs.Text.{Text}
use Rattle.lost_spec.specs.Moment.{Instant}
use Rattle.lost_spec.specs.Service.{Service}
use Rattle.lost_spec.specs.Mapping.{Mapping}
use Rattle.lost_spec.specs.Book.{Book}
use Rattle.lost_spec.specs.Find.{Finding, FoundHolders, FoundDefaults, FoundNothing, found, is_implemented}
use Rattle.lost_spec.specs.Services.{services, by_key}
use Rattle.lost_spec.specs.Request.{Location, Request, FindService, ListServicesByLocation, ListServices, GetServiceBoundary, Reply, ListServicesByLocationResponse, Errors, InternalError}
use Rattle.lost_spec.specs.Answer.{location_used, at_place, at_location, error_of, find_reply, boundary_reply, path_of, is_loop, answer_by_kind, answer}
use Rattle.lost_reading.specs.Requests.{line_request}
use Rattle.lost_writing.specs.Replies.{reply_text}
use Rattle.lost_json.specs.Line.{line_reply}
use Rattle.lost_json.specs.Stream.{internal_error}

-- the line of a reply is not that of `internalError`
abbrev Differs : Reply → Type 0
Differs reply = reply_text reply ≢ reply_text InternalError

-- two lines differ in a byte
in_byte : (place : ℕ) (x y : Text) → (get_or x place 0 == get_or y place 0) ≡ false → x ≢ y
in_byte place x y apart same = eqb-false _ _ apart (ap (λ line. get_or line place 0) same)

-- the line of an error has an edition, which that of `internalError` has not
error_differs : (edition : ℕ) (e : AnswerError) → Differs (Errors edition e)
unfolding reply_text serde_json_on_literals
error_differs edition e = in_byte 13 _ _ refl

either_differs : (b : Bool) (x y : Reply) → Differs x → Differs y → Differs (if b then x else y)
either_differs true x y first second = first
either_differs false x y first second = second

at_place_differs : (edition : ℕ) (place : Option Place) (reply : Place → Reply) → ((l : Place) → Differs (reply l)) → Differs (at_place edition place reply)
at_place_differs edition None reply each = error_differs edition _
at_place_differs edition (Some l) reply each = each l

at_location_differs : (edition : ℕ) (location : Option Location) (reply : Text → Place → Reply) → ((id : Text) (l : Place) → Differs (reply id l)) → Differs (at_location edition location reply)
at_location_differs edition None reply each = error_differs edition _
at_location_differs edition (Some location) reply each =
    either_differs _ _ _ (error_differs edition _) (at_place_differs edition _ (reply location.id) (each location.id))

find_differs : (b : Book) (t : Instant) (s : Service) (id : Text) (l : Place) (validate by_value : Bool) (path : List Text) (what : Finding) → Differs (find_reply b t s id l validate by_value path what)
unfolding reply_text serde_json_on_literals
find_differs b t s id l validate by_value path (FoundHolders u ms) = in_byte 2 _ _ refl
find_differs b t s id l validate by_value path (FoundDefaults u ms) = in_byte 2 _ _ refl
find_differs b t s id l validate by_value path FoundNothing = error_differs b.edits (error_of (is_implemented b t s))

services_differ : (edition : ℕ) (id : Text) (path : List Text) (found_services : List Service) → Differs (ListServicesByLocationResponse edition id path found_services)
unfolding reply_text serde_json_on_literals
services_differ edition id path found_services = in_byte 2 _ _ refl

boundary_differs : (edition : ℕ) (path : List Text) (mapping : Option Mapping) → Differs (boundary_reply edition path mapping)
unfolding reply_text serde_json_on_literals
boundary_differs edition path None = error_differs edition NotFound
boundary_differs edition path (Some m) = in_byte 2 _ _ refl

by_kind_differs : (b : Book) (t : Instant) (path : List Text) (request : Request) → Differs (answer_by_kind b t path request)
unfolding reply_text serde_json_on_literals
by_kind_differs b t path (FindService s locations validate by_value asked) =
    at_location_differs b.edits (location_used locations) _ (λ id l. find_differs b t s id l validate by_value path (found b t l s))
by_kind_differs b t path (ListServicesByLocation q locations asked) =
    at_location_differs b.edits (location_used locations) _ (λ id l. services_differ b.edits id path (services b t l q))
by_kind_differs b t path (ListServices q asked) = in_byte 2 _ _ refl
by_kind_differs b t path (GetServiceBoundary key asked) = boundary_differs b.edits path (by_key b t key)

answer_differs : (b : Book) (name : Text) (t : Instant) (request : Request) → Differs (answer b name t request)
unfolding answer
answer_differs b name t request = either_differs (is_loop name (path_of request)) _ _ (error_differs b.edits _) (by_kind_differs b t (path_of request ++ name ∷ []) request)

-- what answers the line of a request is not the text of `internalError`
pub answered_differs : (b : Book) (name : Text) (t : Instant) (line : Text) (request : Request) (reply : Text) → line_request line ≡ Some request → reply ≡ line_reply b name t line → reply ≢ internal_error
unfolding line_reply
answered_differs b name t line request reply is told = rw (told, is) (answer_differs b name t request)
