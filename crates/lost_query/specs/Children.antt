-- Services below a service, one after another put into a list in order.
use Rattle.std.specs.Prelude.{Bool, List, [], Option, Some, None, IsTrue, filter_map}
use Rattle.std.specs.List.{AllByRecursion, list_any}
use Rattle.lost_spec.specs.Text.{insert_by, ascending_by}
use Rattle.lost_spec.specs.Service.{Service, service_text, is_service, same_service, child}

-- each of these lists of labels is a service (RFC 5031, section 3)
abbrev pub AreServices : List Service → Type 0
AreServices services = AllByRecursion (λ s. IsTrue (is_service s)) services

-- a service, where there is one, put into a list in the order of the texts, unless it is there (own order)
abbrev pub with_some : Option Service → List Service → List Service
with_some None services = services
with_some (Some s) services = insert_by service_text s services

-- the children of a service, or the topmost services, that were found on the way to others (RFC 5222, section 10)
pub record Children : Type 0 where
  pub above : Option Service
  pub found : List Service

-- none was found yet
abbrev pub no_children : Option Service → Children
no_children q = record { above = q; found = [] }

-- with the child on the way to s, where there is one and it was not found before
abbrev pub with_child_to : Service → Children → Children
with_child_to s children = record { above = children.above; found = with_some (child children.above s) children.found }

-- the children of q on the way to these services, ascending by text, each once (own order)
abbrev pub children_to : Option Service → List Service → List Service
children_to q services = ascending_by service_text (filter_map (child q) services)

-- a service stands among others
abbrev pub is_among_services : List Service → Service → Bool
is_among_services services s = list_any (same_service s) services
