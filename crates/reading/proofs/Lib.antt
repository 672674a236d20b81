pub mod ColumnLaws
pub mod ColumnsLaws
pub mod NumberLaws
pub mod LineLaws
pub mod LineUses
pub mod ReaderCases
