pub mod Turns
pub mod Marks
pub mod Auctions
pub mod Passages
pub mod Promises
pub mod Laws
pub mod Found
pub mod Ranks
