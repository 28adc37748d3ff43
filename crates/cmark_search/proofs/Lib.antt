pub mod First
pub mod Sets
pub mod Unions
