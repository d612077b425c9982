mod Walks
mod Chains
mod Given
mod Getting
mod Spelled
