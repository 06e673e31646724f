pub mod Seeking
pub mod Walking
pub mod Filtering
pub mod Striking
pub mod Merging
pub mod Combining
pub mod Standing
