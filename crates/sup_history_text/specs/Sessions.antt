-- What a history has of a node from one begin to the next: its lines, in their order (this project's format of histories).
use Rattle.std.specs.Prelude.{◌≡◌, Bool, true, false, All, List, [], ◌∷◌, ◌++◌, Option, Some, None, is_some, IfSome}
use Rattle.std.specs.Borrow.{Bor}
use Rattle.std.specs.List.{flat_map}
use Rattle.sup_history_text.specs.Kinds.{kind_of}
use Rattle.sup_history_text.specs.Lines.{Line, line_in, lines_in}
use Rattle.sup_history_text.specs.declared.kinds.LineKind.{LineKind}
use Rattle.sup_history_text.specs.declared.kinds.LineKind.TheVariants.{Begin, Heard, Told, End, Other}
use Rattle.sup_history_text.specs.declared.line.NumberedLine.{NumberedLine}
use Rattle.sup_history_text.specs.declared.answer.Answer.{Answer}
use Rattle.sup_history_text.specs.declared.exchange.Exchange.{Exchange}
use Rattle.sup_history_text.specs.declared.session.Session.{Session}

abbrev pub end_lines : Option (Bor NumberedLine) → List Line
end_lines None = []
end_lines (Some end) = line_in end.now ∷ []

abbrev pub answer_lines : Answer → List Line
answer_lines answer = lines_in answer.lines.now ++ end_lines answer.end

abbrev pub exchange_lines : Exchange → List Line
exchange_lines exchange = line_in exchange.heard.now ∷ answer_lines exchange.answer

abbrev pub exchanges_lines : List Exchange → List Line
exchanges_lines = flat_map exchange_lines

abbrev pub session_lines : Session → List Line
session_lines session = line_in session.begin.now ∷ (answer_lines session.unasked ++ exchanges_lines session.exchanges.items)

abbrev pub sessions_lines : List Session → List Line
sessions_lines = flat_map session_lines

-- lines that were told, and the one that ends them, if it is there
pub record IsAnswer (answer : Answer) : Type 0 where
  pub told : All (λ line. kind_of line.bytes.now ≡ Told) answer.lines.now
  pub end : IfSome answer.end (λ line. kind_of line.now.bytes.now ≡ End)

-- a line that was heard, and its answer
pub record IsExchange (exchange : Exchange) : Type 0 where
  pub heard : kind_of exchange.heard.now.bytes.now ≡ Heard
  pub answer : IsAnswer exchange.answer

-- only the last one's answer may have no end
abbrev pub AllButLastAreWhole : List Exchange → Type 0
AllButLastAreWhole [] = Unit {0}
AllButLastAreWhole (exchange ∷ []) = Unit {0}
AllButLastAreWhole (exchange ∷ next ∷ exchanges) = (is_some exchange.answer.end ≡ true) × AllButLastAreWhole (next ∷ exchanges)

-- it begins by a begin; an answer that has no end is the last thing of it
pub record IsSession (session : Session) : Type 0 where
  pub begun : kind_of session.begin.now.bytes.now ≡ Begin
  pub unasked : IsAnswer session.unasked
  pub exchanges : All IsExchange session.exchanges.items
  pub last : is_some session.unasked.end ≡ false → session.exchanges.items ≡ []
  pub whole : AllButLastAreWhole session.exchanges.items

-- whether more of an answer stands at the front
abbrev pub is_told : LineKind → Bool
is_told Begin = false
is_told Heard = false
is_told Told = true
is_told End = true
is_told Other = false

abbrev pub goes_on : List NumberedLine → Bool
goes_on [] = false
goes_on (line ∷ lines) = is_told (kind_of line.bytes.now)
