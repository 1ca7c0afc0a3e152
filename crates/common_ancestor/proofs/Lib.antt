pub mod Jumps
pub mod Sides
pub mod OnlyVisits
pub mod MeetVisits
pub mod MeetTurns
pub mod Folds
pub mod Unreached
