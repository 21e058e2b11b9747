pub mod Image
pub mod Relay
pub mod Texts
pub mod Waiting
pub mod Sent
pub mod Going
pub mod Ends
pub mod Sending
