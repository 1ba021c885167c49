-- Step and spawn answer and leave what `run` gives.
pub mod Calling
