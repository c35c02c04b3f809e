pub mod ProtectedLines
pub mod PrintedLines
