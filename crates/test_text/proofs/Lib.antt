pub mod TestOps
