-- The lemmas of the module `run`.
pub mod Runs
pub mod SameReplies
pub mod SameStates
pub mod Serving
pub mod ServingLoan
