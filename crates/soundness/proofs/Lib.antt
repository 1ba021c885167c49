-- The tests decide the clauses of soundness.
pub mod FlowTest
pub mod MessageTest
pub mod FlowClause
pub mod ArrivalMarks
pub mod ArrivalClause
pub mod StoreTest
pub mod WholeLaws
pub mod SlotsInUse
pub mod PlaceClause
pub mod SendClause
pub mod SlotsDecided
pub mod SoundDecided
