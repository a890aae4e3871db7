pub mod StormProofs
