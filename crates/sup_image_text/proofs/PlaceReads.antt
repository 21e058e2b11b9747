-- A row's place, as its text is read.
use Rattle.std.proofs.Common.{◌≡◌, suc, length, arith, ◌<◌, ◌^◌, List, [], ◌∷◌, drop, decimal, Option, Some, None, MatchOption, refl, sym, ap, ◌∙◌}
use Rattle.json.specs.Token.{Token, begin_array, string, number}
use Rattle.json.specs.Reads.{token_of}
use Rattle.json.specs.declared.token.Token.{Token as Read}
use Rattle.json.specs.Lex.{tokens}
use Rattle.json.specs.Tree.{HasNumbers}
use Rattle.json.proofs.Printed.Decimals.{IsNumber-decimal}
use Rattle.json.proofs.Printed.Tokens.{tokens-print}
use Rattle.json.proofs.Printed.Trees.{ArePrintable-json_tokens}
use Rattle.serde_json.specs.Written.{outline}
use Rattle.serde_json.proofs.Texts.{print-outline}
use Rattle.sup_specs.specs.Values.{Bytes}
use Rattle.sup_specs.specs.declared.child.Restart.{Restart}
use Rattle.sup_specs.specs.declared.child.Restart.TheVariants.{Permanent, Transient, Temporary}
use Rattle.sup_specs.specs.declared.child.Shutdown.{Shutdown}
use Rattle.sup_specs.specs.declared.child.Shutdown.TheVariants.{Brutal, Millis, Infinity}
use Rattle.sup_specs.specs.declared.child.Status.{Status}
use Rattle.sup_specs.specs.declared.child.Status.TheVariants.{Open, Draining}
use Rattle.sup_causal.specs.declared.dot.Dot.{Dot}
use Rattle.sup_tables.specs.declared.row.Entry.{Entry}
use Rattle.sup_tables.specs.declared.row.Entry.TheVariants.{Member, Child, Name}
use Rattle.sup_tables.specs.declared.row.Row.{Row}
use Rattle.sup_tables.specs.Rows.{table_of, key_of, row_of}
use Rattle.sup_wire.specs.Forms.{IsShutdown, IsEntry, IsWritten, row_value, restart_value, shutdown_value, status_value}
use Rattle.sup_wire.specs.Writing.{tokens_of}
use Rattle.sup_wire.specs.declared.version.Version.TheVariants.{Two}
use Rattle.sup_wire.specs.RowTexts.{row_text}
use Rattle.sup_image_text.specs.Places.{table_name}

-- the text of a first number
abbrev pub first_number : List Token → Bytes
first_number [] = []
first_number (Token.begin_object ∷ ts) = []
first_number (Token.end_object ∷ ts) = []
first_number (Token.begin_array ∷ ts) = []
first_number (Token.end_array ∷ ts) = []
first_number (Token.key s ∷ ts) = []
first_number (Token.string s ∷ ts) = []
first_number (Token.number s ∷ ts) = s
first_number (Token.boolean b ∷ ts) = []
first_number (Token.null ∷ ts) = []
first_number (Token.bad ∷ ts) = []

-- what is behind the token that was read
pub read_past : (o : Option Read) (old new : List Token) (t : Token) (ts : List Token) → MatchOption o ((old ≡ []) × (new ≡ [])) (λ r. old ≡ token_of r ∷ new) → old ≡ t ∷ ts → new ≡ ts
read_past None old new t ts given is = absurd (let e : 0 ≡ suc (length ts) = ap length (sym given.0 ∙ is) in omega (arith, e))
read_past (Some r) old new t ts given is = ap (drop 1) (sym given ∙ is)

-- a row's text begins with its table, its key and its dot
pub row_starts : (dot : Dot) (entry : Entry) → tokens_of (row_value Two (row_of dot entry))
    ≡ begin_array ∷ string (table_name (table_of entry)) ∷ string (key_of entry) ∷ begin_array ∷ string dot.node ∷ number (decimal dot.counter) ∷ drop 6 (tokens_of (row_value Two (row_of dot entry)))
row_starts dot (Member m info) = refl
row_starts dot (Child id spec) = refl
row_starts dot (Name name id) = refl

restart_numbers : (r : Restart) → HasNumbers (outline (restart_value r))
restart_numbers Permanent = tt
restart_numbers Transient = tt
restart_numbers Temporary = tt

shutdown_numbers : (s : Shutdown) → IsShutdown s → HasNumbers (outline (shutdown_value s))
shutdown_numbers Brutal is = tt
shutdown_numbers (Millis n) is = IsNumber-decimal n (omega (arith, is))
shutdown_numbers Infinity is = tt

status_numbers : (s : Status) → HasNumbers (outline (status_value s))
status_numbers Open = tt
status_numbers Draining = tt

row_numbers : (dot : Dot) (entry : Entry) → dot.counter < 2 ^ 64 → IsEntry Two entry → HasNumbers (outline (row_value Two (row_of dot entry)))
row_numbers dot (Member m info) fits is = (tt, (tt, ((tt, (IsNumber-decimal dot.counter fits, tt)), ((tt, (status_numbers info.status, tt)), tt))))
row_numbers dot (Child id spec) fits is = (tt, (tt, ((tt, (IsNumber-decimal dot.counter fits, tt)), ((tt, (tt, (restart_numbers spec.restart, (shutdown_numbers spec.shutdown is.1.shutdown, tt)))), tt))))
row_numbers dot (Name name id) fits is = (tt, (tt, ((tt, (IsNumber-decimal dot.counter fits, tt)), (tt, tt))))

pub row_tokens : (r : Row) → IsWritten r → r.dot.counter < 2 ^ 64 → tokens (row_text r) ≡ tokens_of (row_value Two r)
row_tokens r is fits =
    let d = row_value Two r in
    ap tokens (sym (print-outline d)) ∙ tokens-print (tokens_of d) (ArePrintable-json_tokens (outline d) (row_numbers r.dot r.entry fits is.0))

-- the tokens of a row's text
pub starts : (r : Row) (text : Bytes) → text ≡ row_text r → IsWritten r → r.dot.counter < 2 ^ 64
    → tokens text ≡ begin_array ∷ string (table_name (table_of r.entry)) ∷ string (key_of r.entry) ∷ begin_array ∷ string r.dot.node ∷ number (decimal r.dot.counter) ∷ drop 6 (tokens_of (row_value Two r))
starts r text same is fits = ap tokens same ∙ row_tokens r is fits ∙ row_starts r.dot r.entry
