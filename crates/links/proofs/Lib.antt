-- What the functions leave that read the numbers of a state from its store.
pub mod LinkAdds
pub mod LinkReads
pub mod ArrivalReads
pub mod SpawnReads
pub mod LinkWhole
