pub mod Escaping
pub mod Marks
