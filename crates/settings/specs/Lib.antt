pub mod Models
pub mod Names
pub mod Tables
pub mod LayeredModelLemmas
