mod Found
mod Tells
mod Written
