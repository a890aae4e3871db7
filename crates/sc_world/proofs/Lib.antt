mod Prefixes
mod Held
mod KeptMap
mod Lines
mod Names
mod Numbers
mod OrderWords
mod Places
