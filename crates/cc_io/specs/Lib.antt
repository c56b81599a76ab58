pub mod Count
pub mod Folder
pub mod Shelf
pub mod Sink
pub mod SureShelf
