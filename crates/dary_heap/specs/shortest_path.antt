-- What the private functions of the module `shortest_path` do.
pub mod Examining
pub mod Searching
