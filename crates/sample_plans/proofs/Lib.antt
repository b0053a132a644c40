pub mod NoItems
