pub mod WantedLaws
