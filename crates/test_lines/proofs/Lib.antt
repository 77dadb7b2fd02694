mod Copied
mod Fields
mod HexLaws
mod Lists
mod Numbers
pub mod Same
mod Searches
