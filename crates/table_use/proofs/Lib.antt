mod Bools
pub mod Tests
mod Numbers
mod Looks
pub mod Present
pub mod Judged
mod Covered
mod Pushed
mod Walked
mod MetInputs
mod Repeats
pub mod Written
mod InNetwork
mod Named
mod ListCounts
mod RowBoxes
mod BoxCounts
mod Sets
mod Taken
mod Remembered
mod ByNumber
mod EqualOutcomes
mod Emitted
mod Turning
mod SeenOnes
mod Marked
mod AgreeingReads
