pub mod Rounds
pub mod SideSteps
pub mod LeadSteps
pub mod GivenNotes
pub mod Calls
pub mod Points
