-- The line of a findService reply that holds one mapping, piece by piece. (RFC 5222, section 8.4; own format.)
use Rattle.std.specs.Prelude.{◌≡◌, [], ◌∷◌, ◌++◌, codes, decimal}
use Rattle.json.specs.Print.{escape}
use Rattle.lost_spec.specs.Text.{Text}
use Rattle.lost_writing.specs.declared.writing.found_line.FoundLine.{FoundLine}

-- a text that stands in JSON as it is, without an escape (RFC 8259, section 7)
abbrev pub IsPlain : Text → Type 0
IsPlain text = escape text ≡ text

-- the texts that stand before, between and after the edition, the id, the mapping and the server's name
unfoldable pub before_edition : Text
before_edition = codes "{\"findServiceResponse\":{\"edition\":"

unfoldable pub before_id : Text
before_id = codes ",\"locationUsed\":\""

unfoldable pub before_mapping : Text
before_mapping = codes "\",\"mapping\":["

unfoldable pub before_server : Text
before_server = codes "],\"path\":[\""

unfoldable pub after_server : Text
after_server = codes "\"]}}" ++ 10 ∷ []

-- the line of these pieces, each written as it is
unfoldable pub found_text : FoundLine → Text
found_text line =
    before_edition ++ (decimal line.edition ++ (before_id ++ (line.id.now ++ (before_mapping ++ (line.mapping.now ++ (before_server ++ (line.server.now ++ after_server)))))))
