pub mod Pieces
pub mod Words
pub mod Certificates
pub mod KreinTexts
pub mod SpectralTexts
pub mod OrderingTexts
pub mod Texts
pub mod Laws
