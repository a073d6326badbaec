pub mod Bytes
pub mod Outlined
