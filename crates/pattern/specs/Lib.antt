pub mod Text
pub mod Lines
pub mod States
pub mod Pattern
pub mod Read
