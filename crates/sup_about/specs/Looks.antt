-- What a program's arguments ask about it.
use Rattle.std.specs.Prelude.{List, drop, map, string_bytes, Option, None, Result, Ok, Err}
use Rattle.std.specs.Vec.Iter.{into_iter_items}
use Rattle.std.specs.declared.io.Error.{Error}
use Rattle.std.specs.declared.string.String.{String}
use Rattle.std.specs.declared.vec.IntoIter.{IntoIter}
use Rattle.sup_about.specs.Askings.{Word, asked_of}
use Rattle.sup_about.specs.declared.asked.Asked.{Asked}
use Rattle.sup_about.specs.declared.asked.Program.{Program}

-- the words behind the program's name, which is the first argument
abbrev pub words_in : {Y Z : Type 0} → IntoIter (String Y) Z → List Word
words_in arguments = map string_bytes (drop 1 (into_iter_items arguments))

-- arguments that can't be had ask nothing
abbrev pub asked_by : {Y Z : Type 0} → Program → Result (IntoIter (String Y) Z) Error → Option Asked
asked_by program (Ok arguments) = asked_of program (words_in arguments)
asked_by program (Err error) = None
