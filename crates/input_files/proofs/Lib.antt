pub mod Holds
pub mod IsNetFault
pub mod InputsFail
pub mod FileFails
pub mod Refused
