pub mod SameSteps
