pub mod Streams
pub mod Carried
pub mod Reported
pub mod Served
pub mod Statuses
pub mod inner
