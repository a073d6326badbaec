pub mod Lines
pub mod Printed
pub mod Passing
pub mod Streams
