pub mod Exports
pub mod ExportsDetermined
