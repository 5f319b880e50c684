pub mod InPlace
pub mod Keys
pub mod Places
