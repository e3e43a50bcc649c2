pub mod TwoRunsBare
pub mod TwoRunsStep
pub mod TwoRunsCalls
pub mod TwoRunsTold
pub mod TwoRuns
pub mod TwoRunsWorker
pub mod TwoRunsRights
