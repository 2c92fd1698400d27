pub mod Disk
pub mod Folder
pub mod Texts
