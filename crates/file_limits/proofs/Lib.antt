pub mod SumLaws
pub mod PartLaws
pub mod BodyLaws
pub mod LimitLaws
pub mod OneLimit
pub mod RankLaws
