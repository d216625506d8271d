-- Literals, and the units that they mean.
pub mod Fronts
pub mod Units
pub mod Next
pub mod Printed
