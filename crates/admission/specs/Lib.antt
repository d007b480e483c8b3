pub mod Rejections
pub mod FirstFault
pub mod Seams
