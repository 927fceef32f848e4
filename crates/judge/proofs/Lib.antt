pub mod Judging
pub mod Listing
pub mod Onward
pub mod Told
