pub mod Logs
pub mod Disks
pub mod Apart
