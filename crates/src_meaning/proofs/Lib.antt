mod Assigning
mod Forking
mod Forms
mod Loops
mod Reading
mod StmtForms
mod Stopping
