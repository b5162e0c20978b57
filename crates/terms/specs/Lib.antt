pub mod Moments
pub mod Tags
pub mod Records
pub mod Intervals
pub mod Faults
