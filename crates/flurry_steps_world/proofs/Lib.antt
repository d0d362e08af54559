pub mod TableLaws
pub mod PlaceLaws
pub mod EntryLaws
pub mod DecisionLaws
pub mod StateLaws
pub mod TransitionLaws
pub mod CallLaws
pub mod Frames
pub mod Cases
pub mod LocateCases
pub mod CountCases
pub mod ClaimCases
pub mod HomeLaws
pub mod SlotCases
pub mod MoveCases
pub mod PartyCases
pub mod LossLaws
pub mod WorldLaws
pub mod ThereLaws
pub mod NewLaws
mod ViewLemmas
mod MoveLemmas
mod BoardLemmas
pub mod PartsLaws
pub mod BeginLaws
pub mod WorldSteps
pub mod RunLaws
pub mod LawfulLaws
pub mod SweepLaws
pub mod SweepModes
pub mod SweepCases
