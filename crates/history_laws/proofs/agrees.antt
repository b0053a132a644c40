-- What a history tells, and what may be alive, after moves, commands and all else: `moves_tell`, `moves_agree`.
pub mod Going
pub mod Goes
pub mod Called
pub mod Suits
pub mod Tokens
pub mod CallTold
pub mod Jobs
pub mod Outcome
pub mod Ends
pub mod Taken
pub mod Begun
pub mod Asked
pub mod Finished
pub mod MoveTold
pub mod Laid
pub mod LaidTold
pub mod Others
