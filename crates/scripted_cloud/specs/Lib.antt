pub mod ScriptedAnswers
pub mod Scripted
