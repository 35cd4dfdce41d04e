-- Why an address cannot be listened on: by which error of the system, and in which words. (Own.)
use Rattle.std.specs.Prelude.{List, ℕ}
use lib.Chars.{codes}
use Rattle.std.specs.declared.io.ErrorKind.{ErrorKind}
use Rattle.std.specs.declared.io.ErrorKind.TheVariants.{NotFound, PermissionDenied, AddrInUse, AddrNotAvailable, AlreadyExists, NotADirectory, ReadOnlyFilesystem, OutOfMemory}
use Rattle.lost_sockets.specs.declared.listen_error.ListenError.{ListenError}
use Rattle.lost_sockets.specs.declared.listen_error.ListenError.TheVariants.{InUse, PortRights, NotHere, NotAnAddress, FileRights, NotASocket, NoFolder, PathTooLong, NotAPath, NotMade, Memory}

-- why a host and a port cannot be listened on
abbrev pub tcp_error_of : ErrorKind → ListenError
tcp_error_of AddrInUse = InUse
tcp_error_of PermissionDenied = PortRights
tcp_error_of AddrNotAvailable = NotHere
tcp_error_of OutOfMemory = Memory
tcp_error_of _ = NotAnAddress

-- why no Unix socket can be made at a path
abbrev pub unix_error_of : ErrorKind → ListenError
unix_error_of AddrInUse = InUse
unix_error_of AlreadyExists = InUse
unix_error_of PermissionDenied = FileRights
unix_error_of ReadOnlyFilesystem = FileRights
unix_error_of NotFound = NoFolder
unix_error_of NotADirectory = NoFolder
unix_error_of OutOfMemory = Memory
unix_error_of _ = NotMade

-- what is said of it, behind the option and the address
abbrev pub listen_error_text : ListenError → List ℕ
listen_error_text InUse = codes "is in use: another program listens there"
listen_error_text PortRights = codes "may not be used: a port below 1024 wants rights that this user lacks"
listen_error_text NotHere = codes "is no address of this machine"
listen_error_text NotAnAddress = codes "cannot be used: it must be an address or a name of this machine and a port, as 127.0.0.1:5222"
listen_error_text FileRights = codes "may not be used: this user lacks rights to that file or to its folder"
listen_error_text NotASocket = codes "cannot be used: something that is no socket stands there"
listen_error_text NoFolder = codes "cannot be used: its folder is not there"
listen_error_text PathTooLong = codes "cannot be used: the path of a socket has at most 96 bytes"
listen_error_text NotAPath = codes "cannot be used: a path must stand behind unix:, as unix:/run/lostd/desk.sock"
listen_error_text NotMade = codes "cannot be used: no socket can be made there"
listen_error_text Memory = codes "cannot be used: memory ran out"
