pub mod PassedGate
pub mod RingOutcome
