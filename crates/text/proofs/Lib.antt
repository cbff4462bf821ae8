pub mod Amounts
mod Numbers
pub mod Splitting
