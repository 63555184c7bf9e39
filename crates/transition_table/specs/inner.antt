pub mod WholeSets
