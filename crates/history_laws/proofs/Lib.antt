pub mod tells
