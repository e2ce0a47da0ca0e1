pub mod Ledger
pub mod Fates
pub mod Refusals
pub mod Stack
