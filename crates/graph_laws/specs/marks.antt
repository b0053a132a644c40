pub mod Below
pub mod Cases
