-- Back and undeliver answer and leave what `run` gives.
pub mod Newest
pub mod LeftLaws
pub mod FlyingLaws
pub mod HeldLaws
pub mod AnswerLaws
