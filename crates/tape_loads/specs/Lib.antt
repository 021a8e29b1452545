pub mod LoadRecords
