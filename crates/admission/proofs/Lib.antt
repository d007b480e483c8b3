pub mod Below
pub mod Links
pub mod Reached
pub mod Scan
pub mod Sound
pub mod Typed
