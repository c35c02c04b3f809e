pub mod Kinds
pub mod Blocks
pub mod Rules
pub mod Signatures
