pub mod MachineProofs
pub mod PolicyProofs
