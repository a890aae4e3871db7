pub mod Inputs
pub mod Keys
pub mod Printed
