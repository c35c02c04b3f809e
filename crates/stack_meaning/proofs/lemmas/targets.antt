-- A file for each target that means something of its own.
pub mod Zero
pub mod Error
pub mod Crypt
pub mod Verity
