-- What several layers need. The lemmas of one layer are in its folder, which the file named after it lists.
-- The names that most proofs cite are passed on from here.
pub mod Bags
pub mod Callable
pub mod Callers
pub mod Cancelling
pub mod Common
pub mod Depth
pub mod Fronts
pub mod Order
pub mod Path
pub mod Placing
pub mod Popping
pub use Bags.*
pub use Common.*
pub use Depth.*
pub use Fronts.*
pub use Order.*
