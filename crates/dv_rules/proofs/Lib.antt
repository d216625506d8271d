mod Breaking
mod Calling
mod Constants
mod Leaving
mod Renewing
pub mod CleanSwitch
pub mod CodeAsked
pub mod EdgeLists
pub mod EdgeUses
pub mod FirstRegister
pub mod HandlerSteps
pub mod NothingMade
pub mod Standing
pub mod SwitchTargets
