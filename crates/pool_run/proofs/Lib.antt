pub mod Came
pub mod Checked
pub mod HeadLemmas
pub mod Headed
pub mod RecordLemmas
pub mod RequestLemmas
pub mod Running
pub mod SettingsLemmas
pub mod Tracing
pub mod Turning
mod WorkedScripts
mod WorkedTraces
