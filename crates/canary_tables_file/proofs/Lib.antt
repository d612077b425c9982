mod Found
mod Connected
mod Made
