mod Sameness
mod Finding
mod Walking
mod Agreed
mod Sending
