pub mod FrameValues
pub mod FrameLines
pub mod Lines
pub mod Made
pub mod Laws
