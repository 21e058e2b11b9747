-- The messages that leave at once (this project).
use Rattle.std.specs.Prelude.{List, [], ◌∷◌}
use Rattle.sup_links.specs.Texts.{Bytes}
use Rattle.sup_links.specs.declared.copies.Copies.{Copies}
use Rattle.sup_links.specs.declared.copies.Copies.TheVariants.{Nothing, One, Two}

abbrev pub going : Copies → List Bytes
going Nothing = []
going (One text) = text.items ∷ []
going (Two first second) = first.items ∷ second.items ∷ []
