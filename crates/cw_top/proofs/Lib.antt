mod Judged
mod Ready
mod SpentMoves
mod Budgets
mod Spawned
mod Parameters
mod CommandRuns
mod OverSource
mod OneMemory
pub mod Pieces
pub mod Statuses
mod Checks
mod Told
mod SheetsRead
mod Commands
