pub mod Reported
pub mod ReportedLaws
pub mod SmallLaws
