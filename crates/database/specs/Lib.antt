pub mod Lists
pub mod States
pub mod Rows
pub mod Databases
pub mod Writes
pub mod Agreements
