pub mod Rungs
pub mod Multiples
pub mod Bands
pub mod Rows
pub mod Limits
pub mod Eithers
pub mod Laws
pub mod TickRows
