-- The lemmas of the module `iter`.
pub mod Candidates
pub mod InOrder
pub mod Iterating
pub mod Trees
