pub mod Journals
pub mod Versions
pub mod Ledgers
pub mod Stores
pub mod Soundness
