pub mod BoardLaws
pub mod RangeLaws
pub mod StepLaws
pub mod SumLaws
