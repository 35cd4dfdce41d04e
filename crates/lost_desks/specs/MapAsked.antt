-- What a request of HTTP at the desk's address asks for. (Own; methods and status codes are those of RFC 9110.)
use Rattle.std.specs.Prelude.{ℕ, Bool, if◌then◌else◌, codes}
use Rattle.lost_spec.specs.Text.{Text, same_text}
use Rattle.lost_desks.specs.declared.map_request.MapAsked.{MapAsked}
use Rattle.lost_desks.specs.declared.map_request.MapAsked.TheVariants.{Map, MapWithTraces, FromBrowser, OtherPath, OtherMethod}

-- what is asked for by GET, unless the method is another one
abbrev pub by_get : (method : Text) → MapAsked → MapAsked
by_get method asked = if same_text method (codes "GET") then asked else OtherMethod

-- the map, by GET at its path, with what is remembered of withdrawals if that is asked for; a browser's page, which says where it is from, gets nothing
abbrev pub map_asked : (method target : Text) → (has_origin : Bool) → MapAsked
map_asked method target has_origin =
    if has_origin then FromBrowser
    else if same_text target (codes "/map") then by_get method Map
    else if same_text target (codes "/map?traces") then by_get method MapWithTraces
    else OtherPath

-- the status code of each
abbrev pub asked_code : MapAsked → ℕ
asked_code Map = 200
asked_code MapWithTraces = 200
asked_code FromBrowser = 403
asked_code OtherPath = 404
asked_code OtherMethod = 405
