mod Loops
mod Seen
