pub mod Guided
pub mod Keys
pub mod Laws
pub mod Listed
pub mod Searching
pub mod Walk
