pub mod Map
pub mod RunFault
pub mod Counting
