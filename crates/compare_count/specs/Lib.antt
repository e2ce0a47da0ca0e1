pub mod Count
pub mod Models
