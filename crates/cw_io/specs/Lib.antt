pub mod FaultPlan
pub mod Lcg
pub mod MemSink
pub mod MemSource
pub mod Outside
pub mod WriteSink
