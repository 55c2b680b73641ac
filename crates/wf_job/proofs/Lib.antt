mod Values
mod Read
