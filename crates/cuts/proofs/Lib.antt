-- What the numbers of a rollback say of the state.
pub mod Lines
pub mod ChainLaws
pub mod LowerLaws
pub mod LinkCut
pub mod LinkUndo
pub mod LinkTests
pub mod LinkSearch
