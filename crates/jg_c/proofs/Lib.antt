mod Reading
mod Holding
mod Refusing
mod Marking
mod Naming
mod Seeing
mod Noting
