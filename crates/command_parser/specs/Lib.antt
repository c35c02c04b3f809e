pub mod Commands
pub mod Grammar
pub mod Memory
pub mod OptionNames
pub mod Unread
pub mod CommandLines
