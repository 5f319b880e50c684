pub mod Entries
pub mod Iterating
pub mod Names
pub mod Storing
pub mod Updating
