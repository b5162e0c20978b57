pub mod Turns
pub mod Versions
pub mod Scans
