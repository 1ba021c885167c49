-- What is demanded of the rules.
pub mod Demands
pub mod Consequences
pub mod RollbackDemands
pub mod Limits
pub mod Least
pub mod Size
pub mod CountIsSize
pub mod SpawnFits
pub mod ForwardAlone
