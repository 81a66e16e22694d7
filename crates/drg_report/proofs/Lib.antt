mod Appends
pub mod FrameTexts
pub mod KreinLines
pub mod OneOrderings
