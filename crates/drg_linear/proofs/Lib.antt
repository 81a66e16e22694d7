pub mod Coefficients
pub mod SumSteps
pub mod Sums
pub mod Quotients
pub mod Points
pub mod Holding
pub mod RoomChanges
pub mod Counting
