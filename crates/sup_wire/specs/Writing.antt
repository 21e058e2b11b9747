-- What is appended to a text (this project). For private clauses.
use Rattle.std.specs.Prelude.{◌≡◌, ◌≤◌, Some, List, [], ◌∷◌, map, ◌++◌, codes}
use Rattle.sup_specs.specs.Values.{Bytes}
use Rattle.json.specs.Token.{Token, end_object}
use Rattle.json.specs.Tree.{json_tokens}
use Rattle.json.specs.Written.{Written}
use Rattle.json.specs.Tree as tree
use Rattle.serde_json.specs.Data.{Data, string, array, depth}
use Rattle.serde_json.specs.View.{items_of}
use Rattle.serde_json.specs.Written.{outline, blank}
use Rattle.serde_json.specs.Read.{of_json, max_depth}
use Rattle.sup_tables.specs.Lent.{rows_lent}
use Rattle.sup_wire.specs.declared.writing.lending.LentParts.{LentParts}
use Rattle.sup_wire.specs.declared.version.Version.TheVariants.{Two}
use Rattle.sup_wire.specs.Drafts.{TableParts, Draft}
use Rattle.sup_wire.specs.Forms.{four, version_value, value_of, IsFormed}

-- an array, an item for each element
abbrev pub array_of : {X : Type 0} → (X → Data) → List X → Data
array_of f xs = array (items_of (map f xs))

-- the tokens of a value
abbrev pub tokens_of : Data → List Token
tokens_of d = json_tokens (outline d)

-- a key, and the tokens of its value
abbrev pub field_tokens : Bytes → Data → List Token
field_tokens name d = Token.key name ∷ tokens_of d

-- the tokens of a row
abbrev pub four_tokens : Bytes → Bytes → Data → Data → List Token
four_tokens table key dot value = tokens_of (four table key dot value)

-- the fields of the sender and of the kind
abbrev pub sender_tokens : Bytes → Bytes → List Token
sender_tokens from kind = field_tokens (codes "from") (string from) ++ field_tokens (codes "kind") (string kind)

-- the last fields, and the end of the object
abbrev pub last_tokens : Bytes → List Token
last_tokens to = field_tokens (codes "to") (string to) ++ field_tokens (codes "v") (version_value Two) ++ end_object ∷ []

-- these tokens are appended
pub record AddsTokens (old new : Written) (ts : List Token) : Type 0 where
  pub before : new.before ≡ old.before
  pub tokens : new.tokens ≡ old.tokens ++ ts

-- what stands behind the references
abbrev pub parts_lent : LentParts → TableParts
parts_lent p = record { vector = p.vector.items; cloud = p.cloud.items; rows = rows_lent p.rows.now }

-- what a value needs so that its text reads back
pub record ReadsBack (d : Data) : Type 0 where
  pub value : of_json (outline d) ≡ Some d
  pub nests : tree.depth (outline d) ≤ depth d
  pub whole : blank (outline d) ≡ outline d
  pub shallow : depth d ≤ max_depth

-- a draft of x is appended, and its value reads back; where x is in its range, each of its fields is what it may be
pub record WritesDraft {M : Type 0} (IsDraft : M → Draft → Type 0) (InRange : M → Type 0) (old new : Written) (x : M) : Type 0 where
  pub draft : Draft
  pub same : IsDraft x draft
  pub adds : AddsTokens old new (tokens_of (value_of draft))
  pub back : ReadsBack (value_of draft)
  pub formed : InRange x → IsFormed Two draft
