mod Pushing
mod Listed
mod Histories
mod Joining
mod Growing
