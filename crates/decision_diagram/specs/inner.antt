pub mod Diagrams
