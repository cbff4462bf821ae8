pub mod Splits
pub mod Euros
