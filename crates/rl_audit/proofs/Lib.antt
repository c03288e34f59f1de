pub mod Counting
pub mod Judging
pub mod OneVerdict
pub mod OneJudgment
