pub mod Files
pub mod MemoryRelations
pub mod Named
pub mod Parts
