pub mod Effects
pub mod Files
pub mod Known
