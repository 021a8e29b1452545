pub mod Cars
