mod ChoiceLaws
mod ReadNodeLaws
mod ReadLineLaws
mod ReadPlanLaws
