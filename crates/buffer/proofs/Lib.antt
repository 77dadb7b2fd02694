pub mod Pieces
pub mod Listing
