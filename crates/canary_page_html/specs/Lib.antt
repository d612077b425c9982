pub mod Escaping
pub mod Pages
