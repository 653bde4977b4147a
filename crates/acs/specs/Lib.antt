pub mod Devices
pub mod Faults
pub mod Lines
pub mod Modes
pub mod Printed
pub mod Requests
pub mod Runs
