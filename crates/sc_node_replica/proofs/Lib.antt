mod Rounds
mod Backlog
mod Idling
mod Unsent
mod Queueing
