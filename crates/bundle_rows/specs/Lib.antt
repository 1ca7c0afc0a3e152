pub mod Fork
