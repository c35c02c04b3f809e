pub mod Reading
pub mod ArgumentWords
pub mod Unstriped
pub mod Print
pub mod Keys
