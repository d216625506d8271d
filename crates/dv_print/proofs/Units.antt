-- The units that a draft is laid out to.
pub mod LaidOut
pub mod KeptAddresses
pub mod KeptUnits
pub mod Straight
pub mod SwitchTiles
pub mod Rebased
pub mod KnownDraft
pub mod SpelledAgain
