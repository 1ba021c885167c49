-- A step keeps the control check, and brings no pid from nowhere.
pub mod Sits
pub mod TagLaws
pub mod SitLaws
pub mod BindLaws
pub mod MatchLaws
pub mod Right
pub mod PlaceLaws
pub mod OperatorLaws
pub mod ClauseLaws
pub mod FitLaws
pub mod RowLaws
pub mod ControlLaws
pub mod ModuleLaws
pub mod StepLaws
pub mod WorkLaws
pub mod SameRows
