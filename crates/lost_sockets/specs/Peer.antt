-- How a peer is written, and of which machine it is. (Own.)
use Rattle.std.specs.Prelude.{List, ℕ, Option, None, Some}
use Rattle.std.specs.Net.Text.{socket_text}
use Rattle.std.specs.Net.Socket.{socket_ip}
use Rattle.std.specs.declared.net.ip_addr.IpAddr.{IpAddr}
use lib.Chars.{codes}
use Rattle.lost_sockets.specs.declared.peer.Peer.{Peer}
use Rattle.lost_sockets.specs.declared.peer.Peer.TheVariants.{Tcp, Unix}

-- its address, or that it has none
abbrev pub peer_text : Peer → List ℕ
peer_text (Tcp address) = socket_text address
peer_text Unix = codes "a unix socket"

-- the address of its machine, which no Unix socket has
abbrev pub address_of : Peer → Option IpAddr
address_of (Tcp address) = Some (socket_ip address)
address_of Unix = None
