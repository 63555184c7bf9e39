pub mod Lamp
