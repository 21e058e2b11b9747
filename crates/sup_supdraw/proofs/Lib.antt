pub mod DrawnScriptLaws
