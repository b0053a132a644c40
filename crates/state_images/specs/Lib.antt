pub mod Formed
pub mod Snapshots
pub mod Replays
pub mod Ties
pub mod Claims
pub mod Tokens
pub mod Laws
pub use Rattle.step_relation.specs.Images
