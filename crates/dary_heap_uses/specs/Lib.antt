pub mod FromStd
pub mod Keeping
pub mod Merging
pub mod Scheduling
pub mod Simulation
pub mod Timers
