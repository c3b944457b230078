mod Operands
mod Standing
mod Telling
