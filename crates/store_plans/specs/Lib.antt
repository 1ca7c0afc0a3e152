pub mod Sessions
pub mod Looking
pub mod Changes
pub mod Strips
pub mod ClonePlans
pub mod PullPlans
