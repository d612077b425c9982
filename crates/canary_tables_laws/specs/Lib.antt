pub mod TableBooks
pub mod FirstDesks
pub mod FaultRows
