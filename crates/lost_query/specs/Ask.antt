-- What a findService of the code asks for.
use Rattle.lost_spec.specs.Moment.{Instant}
use Rattle.lost_spec.specs.Book.{Book}
use Rattle.lost_spec.specs.Find.{Finding}
use Rattle.lost_spec.specs.Request as spec
use Rattle.lost_spec.specs.Answer.{find_reply}
use Rattle.lost_location.specs.Place.{place_of}
use Rattle.lost_mapping.specs.Path.{shown_path}
use Rattle.lost_query.specs.declared.find_service.Ask.{Ask}
use Rattle.lost_mapping.specs.declared.path.Path.{Path}

-- the reply for what was found (RFC 5222, section 8)
abbrev pub asked_reply : Book → Instant → Ask → Path → Finding → spec.Reply
asked_reply b t ask path finding =
    find_reply b t ask.service.now ask.location_used.now (place_of ask.place) ask.validate ask.by_value (shown_path path) finding
