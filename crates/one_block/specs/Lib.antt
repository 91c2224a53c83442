-- Where the data of a write inside one block go.
pub mod Data
