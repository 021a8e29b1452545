pub mod OrderRecords
