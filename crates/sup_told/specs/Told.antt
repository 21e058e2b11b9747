-- What a node tells its host (this project's output format). Of an act's end it is one line; then what is to be done, a start with its
-- specification, and the node's letter with its text; then an empty line.
use Rattle.std.specs.Prelude.{ℕ, List, [], ◌∷◌, ◌++◌, codes, Option, Some, None, Result, Ok, Err}
use Rattle.std.specs.List.{flat_map}
use Rattle.sup_local_sup.specs.declared.effect.Effect.{Effect}
use Rattle.sup_local_sup.specs.declared.effect.Effect.TheVariants.{Start, Stop}
use Rattle.sup_replica.specs.declared.done.Done.{Done}
use Rattle.sup_replica.specs.declared.letter.Letter.{Letter}
use Rattle.sup_replica.specs.declared.refusal.Refusal.{Refusal}
use Rattle.sup_text.specs.Words.{text, incarnation_text, spec_text}
use Rattle.sup_text.specs.Answers.{reply_text, refusal_text}

-- start web 1.1 worker permanent 5000 arg=, stop web 1.1, after two spaces
abbrev pub order_text : Effect → List ℕ
order_text (Start id inc spec) = text (codes "  start " ∷ id ∷ codes " " ∷ incarnation_text inc ∷ codes " " ∷ spec_text spec ∷ codes "\n" ∷ [])
order_text (Stop id inc) = text (codes "  stop " ∷ id ∷ codes " " ∷ incarnation_text inc ∷ codes "\n" ∷ [])

-- send b TEXT, after two spaces
abbrev pub parcel_text : Option Letter → List ℕ
parcel_text None = []
parcel_text (Some letter) = text (codes "  send " ∷ letter.to ∷ codes " " ∷ letter.bytes ∷ codes "\n" ∷ [])

abbrev pub done_text : Done → List ℕ
done_text done = text (reply_text done.reply ∷ flat_map order_text done.effects ∷ parcel_text done.out ∷ codes "\n" ∷ [])

-- an answer's lines, and the empty line that ends it
abbrev pub ended_text : List ℕ → List ℕ
ended_text lines = lines ++ codes "\n"

abbrev pub told_text : Result Done Refusal → List ℕ
told_text (Ok done) = done_text done
told_text (Err refusal) = ended_text (refusal_text refusal)

-- of a line that has no form, or is too long
abbrev pub bad_text : List ℕ
bad_text = codes "bad line\n\n"
