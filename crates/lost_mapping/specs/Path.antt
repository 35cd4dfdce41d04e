-- The path that a reply shows.
use Rattle.std.specs.Prelude.{List, [], ◌∷◌, ◌++◌}
use Rattle.lost_spec.specs.Text.{Text}
use Rattle.lost_mapping.specs.declared.path.Path.{Path}
use Rattle.lost_mapping.specs.Request.{path_names}

-- the request's path, and then the server's name (RFC 5222, section 6)
abbrev pub shown_path : Path → List Text
shown_path path = path_names path.names.now ++ path.server.now ∷ []
