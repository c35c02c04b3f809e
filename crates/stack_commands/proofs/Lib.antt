pub mod EndingLemmas
mod EndingObjectLemmas
pub mod OpeningLemmas
mod LinuxLemmas
mod NoteLemmas
mod RefusalLemmas
mod RepairingLemmas
pub mod ServeLemmas
pub mod ServiceLogLemmas
pub mod UsageLemmas
