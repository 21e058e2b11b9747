pub mod NewHosts
mod ResultLaws
