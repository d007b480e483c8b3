pub mod Children
pub mod Levels
pub mod Readable
pub mod Told
