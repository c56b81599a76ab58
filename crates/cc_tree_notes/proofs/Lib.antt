mod Keeps
mod Turns
