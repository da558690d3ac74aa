mod Blocks
mod Gathering
mod Loops
mod Parity
