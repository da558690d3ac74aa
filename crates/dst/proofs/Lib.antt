mod WaySteps
mod Bits
mod ThreadSteps
