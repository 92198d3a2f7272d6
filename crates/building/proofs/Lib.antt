pub mod Sorts
pub mod ConedIsCone
pub mod ConeDetermines
pub mod ConeValid
pub mod Worked
pub mod Runs
pub mod WeldRuns
