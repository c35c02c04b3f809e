-- A file for each target.
pub mod Linear
pub mod Striped
pub mod Zero
pub mod Error
pub mod Crypt
pub mod Verity
pub mod Unstriped
