pub mod Words
pub mod Values
pub mod Options
pub mod Forms
pub mod Endings
pub mod Lines
pub mod Opening
pub mod Script
