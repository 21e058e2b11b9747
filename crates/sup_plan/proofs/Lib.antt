pub mod ApartItemLaws
pub mod ComparedNameLaws
pub mod ItemTestLaws
