-- What a connection of HTTP is answered. (RFC 9110 and RFC 9112; the pages are own.)
use Rattle.std.specs.Prelude.{◌≡◌, ℕ, List, ◌∷◌, ◌++◌, codes, All, Option}
use Rattle.std.specs.Io.KnownBytes.{Appends, Consumes}
use Rattle.http.specs.declared.request.Request.{Request}
use Rattle.http.specs.Request.{head_of}
use Rattle.http_uri.specs.Uri.{uri_path}
use Rattle.http1.specs.Fields.{Header}
use Rattle.http_server.specs.declared.response.Response.{Response}
use Rattle.http_server.specs.declared.state.Config.{Config}
use Rattle.http_server.specs.Response.{fields_of}
use Rattle.http_server.specs.History.{History, IsServed}
use Rattle.lost_status.specs.declared.page.Asked.{Asked}
use Rattle.lost_status.specs.declared.snapshot.Snapshot.{Snapshot}
use Rattle.lost_status.specs.Page.{asked_for}
use Rattle.lost_status.specs.Shown.{code_of, HasText}

-- fields were added, and none was taken away
abbrev pub HasMore : (old new : Response) → Type 0
HasMore old new = (more : List Header) × (fields_of new ≡ fields_of old ++ more)

-- what a request asks for
abbrev pub asked_by : Request (List ℕ) → Asked
asked_by request = asked_for (head_of request).method (uri_path (head_of request).uri)

-- a response to what a request asks for, of a server with these numbers, which ends its connection
pub record IsAnswerTo (now : Snapshot) (request : Request (List ℕ)) (response : Response) : Type 0 where
  pub status : response.status ≡ code_of now (asked_by request)
  pub text : HasText now (asked_by request) response.body.items
  pub closes : (rest : List Header) × (fields_of response ≡ (codes "connection", codes "close") ∷ rest)

-- the service answers by its numbers, and keeps them
pub record Answers (old new : Snapshot) (request : Request (List ℕ)) (response : Response) : Type 0 where
  pub answer : IsAnswerTo old request response
  pub same : new ≡ old

-- a head has at most 8,192 bytes, and no body follows it
pub record IsNarrow (config : Config) : Type 0 where
  pub head : config.limits.max_head_len ≡ 8192
  pub body : config.max_body_len ≡ 0

-- What went over a connection: what was written answers the requests that were read, in order and by the grammar of HTTP, as far as it goes.
pub record IsAnswered (now : Snapshot) (unread read : Option (List ℕ)) (written more : Option (List ℕ)) : Type 0 where
  pub config : Config
  pub narrow : IsNarrow config
  pub history : History
  pub served : ∥ IsServed config history ∥₁
  pub answers : All (λ call. IsAnswerTo now call.0 call.1) history.calls
  pub input : Consumes unread read history.received
  pub output : Appends written more history.sent
