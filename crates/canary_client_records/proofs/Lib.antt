mod Moments
mod TextLemmas
mod Rests
mod Crash
mod NewFiles
mod Kept
mod Utf8
