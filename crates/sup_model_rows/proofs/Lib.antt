mod Words
mod Lines
mod TableRows
mod ChildRows
mod LetterRows
mod SaveRows
mod FurtherRows
mod DrainRows
