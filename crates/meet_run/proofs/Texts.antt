pub mod BlockLemmas
pub mod GrammarLemmas
pub mod LineLemmas
pub mod NextLemmas
pub mod TextLines
pub mod WordLemmas
pub mod WritingLemmas
