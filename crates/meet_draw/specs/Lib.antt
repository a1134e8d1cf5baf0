pub mod Cells
pub mod Columns
pub mod Drawn
pub mod Pictures
pub mod Rows
pub mod Styles
pub mod Truth
