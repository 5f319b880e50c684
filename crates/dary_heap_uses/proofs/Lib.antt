-- The names that most proofs cite are passed on from here.
pub mod Common
pub mod Lowering
pub mod Merging
pub mod Running
pub mod Scheduling
pub mod Taking
pub use Common.*
pub use Merging.*
pub use Running.*
pub use Scheduling.*
pub use Taking.*
