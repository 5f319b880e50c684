pub mod Answering
pub mod Callers
pub mod Finding
pub mod Guiding
pub mod Listed
pub mod Numbering
pub mod Reading
pub mod Searching
