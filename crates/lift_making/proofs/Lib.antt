mod Steps
pub mod WholeRuns
pub mod AuditedRuns
