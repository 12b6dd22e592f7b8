-- How the two calls are met; what follows of them; instances.
pub mod Steps
pub mod Theorems
pub mod Instances
