-- What the laws speak of beside the statements of dv_machine.
pub mod MonitorLaws
pub mod Returning
pub mod Reading
pub mod Conformity
pub mod Bridge
pub mod Running
pub mod Laws
pub mod Premises
pub mod StepLaws
pub mod AllLaws
