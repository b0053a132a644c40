-- What a step leaves of other stacks, `leaves_others`, and where new rows come from, `steps_bear`.
pub mod Apart
pub mod Told
pub mod Leaves
pub mod Bears
pub mod Closings
