pub mod Nearests
pub mod Roundings
pub mod Starts
pub mod TickRows
pub mod Bandings
pub mod Sides
