pub mod Books
pub mod Rules
pub mod Calls
pub mod Traces
pub mod Law
pub mod Worked
pub mod Wrong
