-- What a slice and a hole in it are to the clauses of the modules `hole` and `sift`.
pub mod Hole
pub mod Slots
