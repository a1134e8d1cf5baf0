pub mod OwnMarks
