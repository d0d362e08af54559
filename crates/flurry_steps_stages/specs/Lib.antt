pub mod Help
pub mod Stage
pub mod CallView
pub mod StageView
