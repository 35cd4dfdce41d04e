-- Which of both kinds an address, a listener, a connection and a peer are of. (Own.)
use Rattle.std.specs.Prelude.{◌≡◌, Bool, true, false, List, ℕ, Option, Some, None}
use Rattle.lost_sockets.specs.declared.address.Address.{Address}
use Rattle.lost_sockets.specs.declared.address.Address.TheVariants.{Tcp as TcpAddress, Unix as UnixAddress}
use Rattle.lost_sockets.specs.declared.listener.Listener.{Listener}
use Rattle.lost_sockets.specs.declared.listener.Listener.TheVariants.{Tcp as TcpListener, Unix as UnixListener}
use Rattle.lost_sockets.specs.declared.stream.Stream.{Stream}
use Rattle.lost_sockets.specs.declared.stream.Stream.TheVariants.{Tcp as TcpStream, Unix as UnixStream}
use Rattle.lost_sockets.specs.declared.peer.Peer.{Peer}
use Rattle.lost_sockets.specs.declared.peer.Peer.TheVariants.{Tcp as TcpPeer, Unix as UnixPeer}

-- the path of a Unix socket; none where the address is of TCP
abbrev pub unix_path : Address → Option (List ℕ)
unix_path (TcpAddress host_and_port) = None
unix_path (UnixAddress path) = Some path.now

abbrev pub is_unix_listener : Listener → Bool
is_unix_listener (TcpListener listener) = false
is_unix_listener (UnixListener listener) = true

abbrev pub is_unix_stream : Stream → Bool
is_unix_stream (TcpStream stream) = false
is_unix_stream (UnixStream stream) = true

abbrev pub is_unix_peer : Peer → Bool
is_unix_peer (TcpPeer address) = false
is_unix_peer UnixPeer = true

-- a connection and its peer are of the listener's kind
abbrev pub AreOfKind : Listener → Stream × Peer → Type 0
AreOfKind listener accepted = (is_unix_stream accepted.0 ≡ is_unix_listener listener) × (is_unix_peer accepted.1 ≡ is_unix_listener listener)
