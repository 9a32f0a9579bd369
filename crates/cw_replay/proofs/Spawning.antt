pub mod ForkCode
pub mod ForksSpawned
pub mod NeverForking
