pub mod NvccLaws
