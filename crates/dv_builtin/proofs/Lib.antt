mod LowBits
mod ArrayChars
mod Invokes
mod Following
