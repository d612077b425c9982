mod Again
mod Served
