pub mod Sets
pub mod Readings
pub mod Changes
pub mod Rows
pub mod Agreements
