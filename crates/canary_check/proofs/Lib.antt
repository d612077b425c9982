mod Labels
mod StandIns
mod Texts
mod Waited
