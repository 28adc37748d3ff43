pub mod Renders
