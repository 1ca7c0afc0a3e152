pub mod Filming
