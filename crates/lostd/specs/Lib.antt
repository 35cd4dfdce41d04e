pub mod ExitReasons
