pub mod Fold
pub mod Jobs
pub mod Machine
pub mod Seams
pub mod Column
pub mod Open
pub mod Region
pub mod Words
