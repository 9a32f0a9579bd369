pub mod Links
pub mod UndoWalk
pub mod Undoing
pub mod Walking
