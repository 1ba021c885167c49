-- The tests of messages that came and of flows, and the whole test.
pub mod MessageTests
pub mod StoreTests
