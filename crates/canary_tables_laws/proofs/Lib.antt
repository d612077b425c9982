mod TableBooks
mod FirstDesks
