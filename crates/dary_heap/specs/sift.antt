-- What the private functions of the module `sift` keep and choose.
pub mod Choosing
pub mod Moving
pub mod Sifting
