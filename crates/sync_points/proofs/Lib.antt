mod Places
mod Alone
mod Counts
mod Gathers
mod Runs
