mod Adding
mod Progress
mod Replying
