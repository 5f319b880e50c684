-- What the private parts of the module `iter` keep.
pub mod Candidates
