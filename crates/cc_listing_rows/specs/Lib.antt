pub mod ListedRows
