pub mod LabelMarks
