pub mod Keys
pub mod Lists
pub mod TagSets
pub mod Entries
pub mod Calls
