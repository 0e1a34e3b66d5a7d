pub mod Theorem
pub mod Calls
pub mod OneRequest
pub mod Teeth
