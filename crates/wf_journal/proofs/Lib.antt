pub mod Ends
mod Cuts
mod Shapes
mod Strokes
mod Puts
mod Starts
mod Refusals
mod StepLaws
mod Spelled
pub mod Plans
mod Walks
mod StartPlans
pub mod Answered
mod Rooms
