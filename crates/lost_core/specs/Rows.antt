-- The worked row `world`, a fact that holds by computing. docs/EXAMPLES.md has it in words.
use Rattle.std.specs.Prelude.{◌≡◌, [], ◌∷◌, ◌++◌, Some, Ok, codes}
use Rattle.lost_spec.specs.Text.{Text}
use Rattle.lost_spec.specs.Book.{Publish as PublishEdit}
use Rattle.lost_spec.specs.Examples.{usual_limits, server, now, mapping_a}
use Rattle.lost_reading.specs.Desk.{Stage as StageOrder, desk_line}
use Rattle.lost_core.specs.World.{Replying, Stage, Publish, Enter, Tell, Answer, Staged, Published, Entered, Told, Replied, NoWorker, World, events}
use Rattle.lost_core.specs.Values.{replies_of}

-- the desk line that publishes A, and a request in its area
abbrev pub publish_a : Text
publish_a = codes "{\"publish\":{\"expires\":\"NO-EXPIRATION\",\"key\":\"A-1\",\"lastUpdated\":\"2025-12-01T00:00:00Z\",\"service\":\"urn:service:sos.police\",\"serviceBoundary\":[{\"polygon\":[[0,0],[0,10000000],[10000000,10000000],[10000000,0],[0,0]],\"profile\":\"geodetic-2d\"}],\"source\":\"map.example\",\"sourceId\":\"A\",\"uri\":[\"sip:A@map.example\"]}}"

abbrev pub query_a : Text
query_a = codes "{\"findService\":{\"location\":[{\"id\":\"p\",\"pos\":[5000000,5000000],\"profile\":\"geodetic-2d\"}],\"service\":\"urn:service:sos.police\"}}"

-- the reply where nothing is held, and where A is
abbrev pub nothing_line : Text
nothing_line = codes "{\"errors\":{\"edition\":0,\"error\":\"serviceNotImplemented\"}}" ++ 10 ∷ []

abbrev pub found_line : Text
found_line = codes "{\"findServiceResponse\":{\"edition\":1,\"locationUsed\":\"p\",\"mapping\":[{\"expires\":\"NO-EXPIRATION\",\"lastUpdated\":\"2025-12-01T00:00:00Z\",\"service\":\"urn:service:sos.police\",\"serviceBoundaryReference\":{\"key\":\"A-1\",\"source\":\"map.example\"},\"source\":\"map.example\",\"sourceId\":\"A\",\"uri\":[\"sip:A@map.example\"]}],\"path\":[\"lost.example\"]}}" ++ 10 ∷ []

-- one worker, and these steps, where lines are answered so
abbrev pub row_world : Replying → World
row_world reply = record {
  limits = usual_limits;
  workers = 1;
  reply = reply;
  steps =
      Stage (PublishEdit mapping_a) ∷ Enter 0 ∷ Answer 0 now query_a ∷ Publish ∷ Answer 0 now query_a
      ∷ Tell 0 1 ∷ Answer 0 now query_a ∷ Enter 0 ∷ Tell 0 2 ∷ Answer 5 now query_a ∷ [];
}

-- what is published is seen only once the worker was told of it
abbrev pub WorldRow : Type 0
WorldRow =
    (desk_line publish_a ≡ Some (Ok (StageOrder (PublishEdit mapping_a))))
    × (events (row_world (replies_of server))
    ≡ Staged 1 ∷ Entered 0 ∷ Replied nothing_line ∷ Published 1 ∷ Replied nothing_line
    ∷ Told 1 ∷ Replied found_line ∷ Entered 1 ∷ Told 1 ∷ NoWorker ∷ [])
