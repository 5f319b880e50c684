-- The lemmas of the module `peek_mut`.
pub mod Loans
