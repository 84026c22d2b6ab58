pub mod Nvcc
