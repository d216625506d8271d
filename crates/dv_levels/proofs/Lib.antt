-- Bounds along a method's plan.
pub mod Taking
pub mod Leading
