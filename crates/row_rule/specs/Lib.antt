pub mod Number
pub mod Worked
pub mod Laws
