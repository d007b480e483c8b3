pub mod Apart
pub mod Below
