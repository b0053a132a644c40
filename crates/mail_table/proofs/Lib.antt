mod Finding
mod JobOrders
mod Holding
mod Runs
