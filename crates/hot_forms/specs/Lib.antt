pub mod Codes
pub mod Checks
pub mod Shapes
pub mod Names
pub mod Sections
pub mod Constraints
pub mod Parameters
