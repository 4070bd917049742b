mod Numbers
pub mod Tables
mod Words
