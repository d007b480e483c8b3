pub mod Slot
pub mod Read
pub mod Levels
pub mod Seams
pub mod Values
