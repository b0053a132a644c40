pub mod Rooms
pub mod Orders
pub mod Numbers
pub mod Sortings
pub mod Lists
pub mod SortedRooms
