pub mod Maps
pub mod Asking
pub mod Writing
pub mod Meanings
