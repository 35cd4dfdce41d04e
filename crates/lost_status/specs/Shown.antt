-- What the pages show of a server's numbers. (Own.)
use Rattle.std.specs.Prelude.{◌≡◌, ℕ, [], ◌∷◌, ◌++◌, codes, decimal, if◌then◌else◌}
use Rattle.lost_spec.specs.Text.{Text}
use Rattle.lost_digest.specs.Digest.{digest_text}
use Rattle.lost_status.specs.declared.page.Page.TheVariants.{Health, Metrics, Report}
use Rattle.lost_status.specs.declared.page.Asked.{Asked}
use Rattle.lost_status.specs.declared.page.Asked.TheVariants.{Shown, OtherMethod, OtherPath}
use Rattle.lost_status.specs.declared.snapshot.Snapshot.{Snapshot}

-- that of the health is 503 until the server is ready
abbrev pub health_code : Snapshot → ℕ
health_code now = if now.is_ready then 200 else 503

-- the health: whether it is ready, and with which edition and which map
abbrev pub health_text : Snapshot → Text
health_text now =
    if now.is_ready then codes "ready" ++ (10 ∷ (codes "edition " ++ (decimal now.desk.edition ++ (10 ∷ (codes "map " ++ (digest_text now.desk.digest ++ (10 ∷ [])))))))
    else codes "not ready" ++ (10 ∷ [])

-- the status code of what is asked for
abbrev pub code_of : Snapshot → Asked → ℕ
code_of now (Shown Health) = health_code now
code_of now (Shown Metrics) = 200
code_of now (Shown Report) = 200
code_of now OtherMethod = 405
code_of now OtherPath = 404

-- the methods by which a page is asked for
abbrev pub methods_text : Text
methods_text = codes "GET or HEAD" ++ (10 ∷ [])

-- the paths at which there is a page
abbrev pub paths_text : Text
paths_text = codes "/health" ++ (10 ∷ (codes "/metrics" ++ (10 ∷ (codes "/status" ++ (10 ∷ [])))))

-- The text of what is asked for: the health is told exactly. (That of the numbers is tested.)
abbrev pub HasText : Snapshot → Asked → Text → Type 0
HasText now (Shown Health) text = text ≡ health_text now
HasText now (Shown Metrics) text = Unit {0}
HasText now (Shown Report) text = Unit {0}
HasText now OtherMethod text = text ≡ methods_text
HasText now OtherPath text = text ≡ paths_text
