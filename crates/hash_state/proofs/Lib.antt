pub mod Bytes
pub mod Streams
