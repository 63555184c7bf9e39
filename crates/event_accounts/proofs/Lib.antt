pub mod OneItemMore
pub mod AccountAfter
pub mod InputsOf
pub mod RowsOf
pub mod Balances
pub mod AllLossesCounted
pub mod InputLines
