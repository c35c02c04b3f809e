pub mod Causes
pub mod Commands
pub mod Pages
pub mod Versions
pub mod Help
pub mod UsageErrors
pub mod MessageLines
pub mod messages
