pub mod WordLemmas
pub mod ReadingLemmas
pub mod Alone
pub mod BodyParts
pub mod OneBody
pub mod OneReading
pub mod BodyDepths
