-- The reply to what is asked, and the place at which it is asked.
use Rattle.std.specs.Prelude.{Option, None, Some}
use Rattle.std.specs.Option.{option_copied}
use Rattle.lost_spec.specs.Place.{Place}
use Rattle.lost_spec.specs.Moment.{Instant}
use Rattle.lost_spec.specs.Book.{Book}
use Rattle.lost_spec.specs.Find.{found}
use Rattle.lost_spec.specs.Services.{services, all_services, by_key}
use Rattle.lost_spec.specs.Request as spec
use Rattle.lost_spec.specs.Answer.{boundary_reply}
use Rattle.lost_location.specs.Place.{place_of}
use Rattle.lost_mapping.specs.declared.path.Path.{Path}
use Rattle.lost_mapping.specs.Path.{shown_path}
use Rattle.lost_query.specs.declared.asked.Asked.{Asked}
use Rattle.lost_query.specs.declared.asked.Question.{Question}
use Rattle.lost_query.specs.declared.asked.Question.TheVariants.{FindService, ListServicesByLocation, ListServices, GetServiceBoundary, Refused}
use Rattle.lost_query.specs.Ask.{asked_reply}

-- the reply to a question over a book at t (RFC 5222, sections 8 to 13)
abbrev pub question_reply : Book → Instant → Path → Question → spec.Reply
question_reply b t path (FindService ask) = asked_reply b t ask path (found b t (place_of ask.place) ask.service.now)
question_reply b t path (ListServicesByLocation above location_used place) =
    spec.ListServicesByLocationResponse b.edits location_used.now (shown_path path) (services b t (place_of place) (option_copied above))
question_reply b t path (ListServices above) = spec.ListServicesResponse b.edits (shown_path path) (all_services b t (option_copied above))
question_reply b t path (GetServiceBoundary key) = boundary_reply b.edits (shown_path path) (by_key b t key.now)
question_reply b t path (Refused error) = spec.Errors b.edits error

-- the place at which a question is asked (RFC 5222, sections 8 and 11)
abbrev pub question_place : Question → Option Place
question_place (FindService ask) = Some (place_of ask.place)
question_place (ListServicesByLocation above location_used place) = Some (place_of place)
question_place (ListServices above) = None
question_place (GetServiceBoundary key) = None
question_place (Refused error) = None

-- the reply to what is asked, over a book at t
unfoldable pub reply_asked : Book → Instant → Asked → spec.Reply
reply_asked b t asked = question_reply b t asked.path asked.question

-- the place at which it is asked
abbrev pub asked_place : Asked → Option Place
asked_place asked = question_place asked.question
