pub mod ItemLaws
pub mod SublistLaws
pub mod GravestFaultLaws
