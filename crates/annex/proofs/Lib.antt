mod Fields
pub mod Trying
pub mod Reading
