mod Projected
mod Places
mod Central
