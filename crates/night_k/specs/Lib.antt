-- Configuration K's list, and what every permitted night of it says.
pub mod List
pub mod ListProved
pub mod Output
pub mod PlanLaws
pub mod Rows
pub mod StepLaws
pub mod LoadLaws
pub mod NightProved
