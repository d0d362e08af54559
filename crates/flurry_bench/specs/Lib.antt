pub mod NumberHashes
