mod Placed
mod Hears
mod Fitting
mod Outputs
mod Standing
mod Telling
mod OneAnswer
mod WorkedWatches
