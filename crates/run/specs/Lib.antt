pub mod Asked
pub mod Fair
pub mod OneRun
pub mod StepMade
pub mod Later
