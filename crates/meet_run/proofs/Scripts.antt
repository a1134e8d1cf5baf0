pub mod CallLemmas
pub mod Ran
pub mod Reached
pub mod RunLemmas
pub mod ScriptLemmas
pub mod SetupLemmas
pub mod WorkedScripts
