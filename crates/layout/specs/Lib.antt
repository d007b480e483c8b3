pub mod Bytes
pub mod Records
pub mod Types
pub mod Nodes
pub mod Views
