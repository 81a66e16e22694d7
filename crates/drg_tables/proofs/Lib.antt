pub mod Fields
mod Records
pub mod Taking
pub mod RowLaws
pub mod Places
pub mod Listings
pub mod Spread
mod Written
