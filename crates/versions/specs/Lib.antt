pub mod Versions
pub mod Stores
pub mod Soundness
