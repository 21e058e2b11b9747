pub mod Heard
pub mod AnsweringNodes
pub mod ServedHosts
pub mod BegunNodes
