-- The lemmas of the module `heap`.
pub mod Cloning
pub mod Extending
pub mod Filtering
