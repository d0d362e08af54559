pub mod WantedTables
