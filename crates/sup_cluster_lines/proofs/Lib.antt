pub mod LinkSearchLaws
