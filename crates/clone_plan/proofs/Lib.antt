pub mod Telling
pub mod ToldPlans
