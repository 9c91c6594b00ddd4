pub mod Completions
pub mod Cuts
pub mod Inversion
pub mod JudgeParts
pub mod Judging
pub mod Laws
pub mod Measures
