mod Again
mod Fields
mod Front
mod Ways
