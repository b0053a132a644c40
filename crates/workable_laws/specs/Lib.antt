pub mod Workable
pub mod Admitted
pub mod Laws
