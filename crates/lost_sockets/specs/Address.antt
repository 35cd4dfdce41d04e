-- What an address means, by its text. (Own.)
use Rattle.std.specs.Prelude.{◌≡◌, ◌≢◌, List, ℕ, ◌++◌}
use lib.Chars.{codes}
use Rattle.lost_sockets.specs.declared.address.Address.{Address}
use Rattle.lost_sockets.specs.declared.address.Address.TheVariants.{Tcp, Unix}

-- what the address of a Unix socket begins with
abbrev pub unix_scheme : List ℕ
unix_scheme = codes "unix:"

-- the address is that of this text: what stands behind `unix:` where it begins so, and else the whole text
abbrev pub IsAddressOf : List ℕ → Address → Type 0
IsAddressOf text (Tcp host_and_port) = (host_and_port.now ≡ text) × ((rest : List ℕ) → text ≢ unix_scheme ++ rest)
IsAddressOf text (Unix path) = text ≡ unix_scheme ++ path.now
