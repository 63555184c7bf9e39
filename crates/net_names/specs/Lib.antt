pub mod Machines
pub mod Numbers
pub mod Places
pub mod Scopes
pub mod Tables
pub mod Values
pub mod Vars
