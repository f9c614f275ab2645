pub mod Taking
pub mod Texts
pub mod Words
pub mod Numbers
pub mod Names
pub mod Written
pub mod inner
