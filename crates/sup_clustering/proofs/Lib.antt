mod EndedClusterLaws
mod JudgedHistoryLaws
mod NodeEntryLaws
mod OneRefusalLaws
mod OneVerdictLaws
mod SameNameLaws
mod SameRunLaws
mod SameSettlingLaws
