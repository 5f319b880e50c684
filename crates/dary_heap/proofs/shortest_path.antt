-- The lemmas of the module `shortest_path`.
pub mod Apart
pub mod Examining
pub mod Relaxing
pub mod Searching
