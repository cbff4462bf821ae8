pub mod Rows
pub mod Trials
pub mod Totals
