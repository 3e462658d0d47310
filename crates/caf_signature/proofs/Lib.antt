pub mod InterfaceLemmas
pub mod RegistryLemmas
