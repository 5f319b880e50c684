pub mod Bounds
pub mod Common
pub mod Decimals
pub mod Parting
pub mod Plain
pub mod Scripts
pub mod Written
