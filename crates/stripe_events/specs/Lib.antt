pub mod Tables
pub mod Accesses
pub mod Prepared
