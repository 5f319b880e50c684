-- The lemmas of the module `shortest_path`.
pub mod Waiting
pub mod Lowering
pub mod Counting
pub mod Ways
pub mod Tracing
pub mod Nearer
