pub mod Agreeing
pub mod Answering
pub mod BeyondColumns
pub mod Deciding
