pub mod Positions
pub mod Lines
pub mod OnePlace
pub mod BlockText
pub mod LastBefore
pub mod SmallTexts
