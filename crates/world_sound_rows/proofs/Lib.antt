pub mod AnyTo
