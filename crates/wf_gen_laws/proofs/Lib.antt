mod Moves
mod Divided
mod Short
mod Read
mod Unarmed
