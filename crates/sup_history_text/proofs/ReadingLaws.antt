-- The lines of sessions have one reading: it is put together from the last line to the first.
use Rattle.std.proofs.Common.{◌≡◌, List, [], ◌∷◌, ◌++◌, map, Option, None, Some, refl, sym, ◌∙◌, ap, append_assoc, All}
use Rattle.std.specs.Prelude.{IfSome, option_map}
use Rattle.std.specs.Borrow.{Bor}
use Rattle.std.specs.List.{AllByRecursion}
use Rattle.std.proofs.lemmas.List.{append-nil}
use Rattle.std.proofs.lemmas.List.Elements.{recursion_from_All}
use Rattle.sup_history_text.specs.Kinds.{kind_of}
use Rattle.sup_history_text.specs.Lines.{Line, line_in, lines_in}
use Rattle.sup_history_text.specs.Readings.{ExchangeSaid, SessionSaid, exchange_said, session_said}
use Rattle.sup_history_text.specs.Sessions.{answer_lines, end_lines, exchange_lines, exchanges_lines, session_lines, sessions_lines, IsAnswer, IsExchange, IsSession}
use Rattle.sup_history_text.specs.declared.kinds.LineKind.{LineKind}
use Rattle.sup_history_text.specs.declared.kinds.LineKind.TheVariants.{Begin, Heard, Told, End, Other}
use Rattle.sup_history_text.specs.declared.line.NumberedLine.{NumberedLine}
use Rattle.sup_history_text.specs.declared.answer.Answer.{Answer}
use Rattle.sup_history_text.specs.declared.exchange.Exchange.{Exchange}
use Rattle.sup_history_text.specs.declared.session.Session.{Session}
use Rattle.sup_history_text.proofs.OrderLaws.{IsToldLine}

-- what lines say: the rest of an answer, exchanges behind it, and sessions behind these
record Reading : Type 0 where
  pub told : List Line
  pub end : Option Line
  pub exchanges : List ExchangeSaid
  pub sessions : List SessionSaid

abbrev reading : List Line → Option Line → List ExchangeSaid → List SessionSaid → Reading
reading told end exchanges sessions = record { told = told; end = end; exchanges = exchanges; sessions = sessions }

-- a line more, at the front
abbrev with_line : LineKind → Line → Reading → Reading
with_line Begin line r = reading [] None [] ((line, (r.told, r.end), r.exchanges) ∷ r.sessions)
with_line Heard line r = reading [] None ((line, (r.told, r.end)) ∷ r.exchanges) r.sessions
with_line Told line r = reading (line ∷ r.told) r.end r.exchanges r.sessions
with_line End line r = reading [] (Some line) r.exchanges r.sessions
with_line Other line r = r

abbrev reading_of : List Line → Reading
reading_of [] = reading [] None [] []
reading_of (line ∷ lines) = with_line (kind_of line.1) line (reading_of lines)

with_kind : (kind of : LineKind) (line : Line) (r s : Reading) → kind ≡ of → r ≡ s → with_line kind line r ≡ with_line of line s
with_kind kind of line r s is h = ap (λ k. with_line k line r) is ∙ ap (λ t. with_line of line t) h

reading_of-told : (xs : List NumberedLine) (ls : List Line) (t : List Line) (e : Option Line) (es : List ExchangeSaid) (ss : List SessionSaid) → AllByRecursion IsToldLine xs
    → reading_of ls ≡ reading t e es ss → reading_of (lines_in xs ++ ls) ≡ reading (lines_in xs ++ t) e es ss
reading_of-told [] ls t e es ss told h = h
reading_of-told (x ∷ xs) ls t e es ss told h = with_kind (kind_of x.bytes.now) Told (line_in x) _ _ told.0 (reading_of-told xs ls t e es ss told.1 h)

reading_of-parts : (xs : List NumberedLine) (end : Option (Bor NumberedLine)) (ls : List Line) (es : List ExchangeSaid) (ss : List SessionSaid) → AllByRecursion IsToldLine xs
    → IfSome end (λ line. kind_of line.now.bytes.now ≡ End) → reading_of ls ≡ reading [] None es ss
    → reading_of ((lines_in xs ++ end_lines end) ++ ls) ≡ reading (lines_in xs) (option_map (λ line. line_in line.now) end) es ss
reading_of-parts xs None ls es ss told is h =
    ap reading_of (append_assoc (lines_in xs) [] ls) ∙ reading_of-told xs ls [] None es ss told h ∙ ap (λ t. reading t None es ss) (append-nil (lines_in xs))
reading_of-parts xs (Some end) ls es ss told is h =
    ap reading_of (append_assoc (lines_in xs) (line_in end.now ∷ []) ls)
    ∙ reading_of-told xs (line_in end.now ∷ ls) [] (Some (line_in end.now)) es ss told (with_kind (kind_of end.now.bytes.now) End (line_in end.now) _ _ is h)
    ∙ ap (λ t. reading t (Some (line_in end.now)) es ss) (append-nil (lines_in xs))

reading_of-answer : (answer : Answer) (ls : List Line) (es : List ExchangeSaid) (ss : List SessionSaid) → IsAnswer answer → reading_of ls ≡ reading [] None es ss
    → reading_of (answer_lines answer ++ ls) ≡ reading (lines_in answer.lines.now) (option_map (λ line. line_in line.now) answer.end) es ss
reading_of-answer answer ls es ss is h = reading_of-parts answer.lines.now answer.end ls es ss (recursion_from_All IsToldLine _ is.told) is.end h

reading_of-exchanges : (xs : List Exchange) (ls : List Line) (ss : List SessionSaid) → AllByRecursion IsExchange xs → reading_of ls ≡ reading [] None [] ss
    → reading_of (exchanges_lines xs ++ ls) ≡ reading [] None (map exchange_said xs) ss
reading_of-exchanges [] ls ss are h = h
reading_of-exchanges (x ∷ xs) ls ss are h =
    ap reading_of (append_assoc (exchange_lines x) (exchanges_lines xs) ls)
    ∙ with_kind (kind_of x.heard.now.bytes.now) Heard (line_in x.heard.now) _ _ are.0.heard
    (reading_of-answer x.answer (exchanges_lines xs ++ ls) (map exchange_said xs) ss are.0.answer (reading_of-exchanges xs ls ss are.1 h))

reading_of-session : (s : Session) (ls : List Line) (ss : List SessionSaid) → IsSession s → reading_of ls ≡ reading [] None [] ss
    → reading_of (session_lines s ++ ls) ≡ reading [] None [] (session_said s ∷ ss)
reading_of-session s ls ss is h =
    with_kind (kind_of s.begin.now.bytes.now) Begin (line_in s.begin.now) _ _ is.begun
    (ap reading_of (append_assoc (answer_lines s.unasked) (exchanges_lines s.exchanges.items) ls)
    ∙ reading_of-answer s.unasked (exchanges_lines s.exchanges.items ++ ls) (map exchange_said s.exchanges.items) ss is.unasked
    (reading_of-exchanges s.exchanges.items ls ss (recursion_from_All IsExchange _ is.exchanges) h))

reading_of-sessions : (ss : List Session) → AllByRecursion IsSession ss → reading_of (sessions_lines ss) ≡ reading [] None [] (map session_said ss)
reading_of-sessions [] are = refl
reading_of-sessions (s ∷ ss) are = reading_of-session s (sessions_lines ss) (map session_said ss) are.0 (reading_of-sessions ss are.1)

pub one_reading : (xs ys : List Session) → All IsSession xs → All IsSession ys → sessions_lines xs ≡ sessions_lines ys → map session_said xs ≡ map session_said ys
one_reading xs ys are others same =
    ap (λ r. r.sessions) (sym (reading_of-sessions xs (recursion_from_All IsSession xs are)) ∙ ap reading_of same ∙ reading_of-sessions ys (recursion_from_All IsSession ys others))
