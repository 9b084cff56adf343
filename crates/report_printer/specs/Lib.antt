pub mod Printed
pub mod Lines
pub mod Written
pub mod WriteLaws
pub mod ReportedLaws
