-- A file for each target that is more than `bare`, and what `striped` and `unstriped` are to each other.
pub mod Linear
pub mod Striped
pub mod Crypt
pub mod Verity
pub mod Unstriped
pub mod Stripes
