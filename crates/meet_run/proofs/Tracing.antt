pub mod BaseSpellings
pub mod Chaining
pub mod Erasing
pub mod HeadLemmas
pub mod KeepingLemmas
pub mod Laid
pub mod Parted
pub mod PieceLines
pub mod PieceOrder
pub mod ReadFrom
pub mod ReadParts
pub mod Recorded
pub mod SpelledLines
pub mod TraceLemmas
pub mod TraceReading
pub mod TraceWriting
pub mod WholeTexts
mod WorkedTraces
