-- A step on one stack leaves all others as they stood: `others_stand`; and each is on one: `moves_on_one`.
pub mod Same
pub mod Graphs
pub mod Mails
pub mod Marks
pub mod Others
pub mod Pieces
pub mod OnOne
pub mod Commands
pub mod Engines
pub mod Stands
