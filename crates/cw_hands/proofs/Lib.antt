mod Laws
mod Shared
mod Worked
