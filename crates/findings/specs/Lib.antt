pub mod Who
pub mod WayTexts
pub mod Leaks
pub mod Findings
