mod DeskRuns
mod TurnedAway
mod Checked
mod LeftUnclear
