-- A file for each target that doesn't pass sectors through unchanged, and one for the others.
pub mod Mapped
pub mod Zero
pub mod Error
pub mod Crypt
pub mod Verity
