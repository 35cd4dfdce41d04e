-- What a request of HTTP asks for. (The paths are own; the methods are those of RFC 9110, sections 9.3.1 and 9.3.2.)
use Rattle.std.specs.Prelude.{Bool, true, false, ◌||◌, if◌then◌else◌, Option, Some, None, codes}
use Rattle.lost_spec.specs.Text.{Text, same_text}
use Rattle.lost_status.specs.declared.page.Page.{Page}
use Rattle.lost_status.specs.declared.page.Page.TheVariants.{Health, Metrics, Report}
use Rattle.lost_status.specs.declared.page.Asked.{Asked}
use Rattle.lost_status.specs.declared.page.Asked.TheVariants.{Shown, OtherMethod, OtherPath}

-- the page at a path
abbrev pub page_at : Text → Option Page
page_at path =
    if same_text path (codes "/health") then Some Health
    else (if same_text path (codes "/metrics") then Some Metrics
    else (if same_text path (codes "/status") then Some Report else None))

-- the method asks for a page, or for the head of one
abbrev pub is_reading : Text → Bool
is_reading method = same_text method (codes "GET") || same_text method (codes "HEAD")

-- what is asked for by a method that reads, or does not, of the page that is there
abbrev pub asked_of : Bool → Option Page → Asked
asked_of reading None = OtherPath
asked_of true (Some page) = Shown page
asked_of false (Some page) = OtherMethod

-- what a method and a path ask for
abbrev pub asked_for : (method path : Text) → Asked
asked_for method path = asked_of (is_reading method) (page_at path)
