pub mod AddedStates
pub mod KeptStates
pub mod States
