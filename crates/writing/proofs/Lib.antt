-- The words that are written are those of the state after.
pub mod SlotWrites
pub mod SlotCode
pub mod SpanLaws
pub mod StoreWrites
pub mod PostLaws
pub mod UndoLaws
