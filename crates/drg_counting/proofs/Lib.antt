pub mod ClaimLaws
pub mod ParityLaws
mod Products
