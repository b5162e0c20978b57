pub mod Turns
pub mod Passes
pub mod Showing
