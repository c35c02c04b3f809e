pub mod Parts
pub mod Windows
pub mod Copying
pub mod Differing
pub mod DifferingCalls
pub mod Watching
pub mod Lacking
