pub mod Answers
pub mod Faults
pub mod Program
pub mod Script
pub mod Words
