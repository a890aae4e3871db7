mod Counting
mod Flying
mod Places
mod Placing
