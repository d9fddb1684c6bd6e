pub mod Columns
pub mod ColumnsLaws
pub mod JudgeLaws
