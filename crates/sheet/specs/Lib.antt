pub mod Gates
pub mod Thresholds
pub mod Sheets
pub mod Sounds
pub mod Foundings
pub mod Periods
pub mod Laws
