pub mod Mails
pub mod Mail
pub mod Holders
pub mod ByRow
pub mod Runs
