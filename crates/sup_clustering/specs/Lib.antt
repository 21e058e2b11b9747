pub mod CertifiedPlans
pub mod ClusterRuns
pub mod OneVerdict
pub mod Verdicts
