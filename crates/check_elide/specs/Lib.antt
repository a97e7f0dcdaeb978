pub mod Elides
