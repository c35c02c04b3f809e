pub mod Accesses
pub mod Commands
pub mod QueueSessions
pub mod Replies
pub mod Session
pub mod Texts
