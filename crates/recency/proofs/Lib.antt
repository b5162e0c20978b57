pub mod Searches
pub mod Shifts
pub mod Orders
