pub mod Prices
pub mod Dates
pub mod Calendar
pub mod Trades
pub mod Refusals
