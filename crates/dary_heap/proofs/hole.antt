-- The lemmas of the module `hole`, from one place.
pub mod Holes
pub mod SlotsOwned
pub mod Walks
pub mod WalksAt
pub use Holes.*
pub use SlotsOwned.*
pub use Walks.*
