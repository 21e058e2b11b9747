pub mod NotedLineLaws
