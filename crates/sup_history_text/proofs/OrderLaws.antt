-- Lines that follow one another: the lines of answers, exchanges and sessions do.
use Rattle.std.proofs.Common.{◌≡◌, List, [], ◌∷◌, ◌++◌, Option, None, Some, Bool, true, false, refl, sym, ◌∙◌, ap, subst, All}
use Rattle.std.specs.Prelude.{is_some, IfSome}
use Rattle.std.specs.Borrow.{Bor}
use Rattle.std.specs.List.{AllByRecursion}
use Rattle.std.proofs.lemmas.List.Elements.{recursion_from_All}
use Rattle.sup_history_text.specs.Kinds.{kind_of, may_follow, is_answering, is_answered}
use Rattle.sup_history_text.specs.Lines.{Line, line_in, lines_in}
use Rattle.sup_history_text.specs.Sessions.{answer_lines, end_lines, exchange_lines, exchanges_lines, session_lines, sessions_lines, IsAnswer, IsExchange, IsSession, AllButLastAreWhole}
use Rattle.sup_history_text.specs.Histories.{Follow, last_kind}
use Rattle.sup_history_text.specs.declared.kinds.LineKind.{LineKind}
use Rattle.sup_history_text.specs.declared.kinds.LineKind.TheVariants.{Begin, Heard, Told, End}
use Rattle.sup_history_text.specs.declared.line.NumberedLine.{NumberedLine}
use Rattle.sup_history_text.specs.declared.answer.Answer.{Answer}
use Rattle.sup_history_text.specs.declared.exchange.Exchange.{Exchange}
use Rattle.sup_history_text.specs.declared.session.Session.{Session}

pub Follow-append : (before : Option LineKind) (xs ys : List Line) → Follow before xs → Follow (last_kind before xs) ys → Follow before (xs ++ ys)
Follow-append before [] ys f g = g
Follow-append before (x ∷ xs) ys f g = (f.0, Follow-append (Some (kind_of x.1)) xs ys f.1 g)

pub Follow-behind : (before : Option LineKind) (xs ys : List Line) → Follow before (xs ++ ys) → Follow (last_kind before xs) ys
Follow-behind before [] ys f = f
Follow-behind before (x ∷ xs) ys f = Follow-behind (Some (kind_of x.1)) xs ys f.1

pub last_kind-append : (before : Option LineKind) (xs ys : List Line) → last_kind before (xs ++ ys) ≡ last_kind (last_kind before xs) ys
last_kind-append before [] ys = refl
last_kind-append before (x ∷ xs) ys = last_kind-append (Some (kind_of x.1)) xs ys

-- what a line of each kind may follow, and what it leaves
heard_may : (before : Option LineKind) (kind : LineKind) → kind ≡ Heard → is_answered before ≡ true → may_follow before kind ≡ true
heard_may before kind is answered = rw is answered

told_may : (before : Option LineKind) (kind : LineKind) → kind ≡ Told → is_answering before ≡ true → may_follow before kind ≡ true
told_may before kind is answering = rw is answering

end_may : (before : Option LineKind) (kind : LineKind) → kind ≡ End → is_answering before ≡ true → may_follow before kind ≡ true
end_may before kind is answering = rw is answering

begin_may : (before : Option LineKind) (kind : LineKind) → kind ≡ Begin → may_follow before kind ≡ true
begin_may before kind is = rw is refl

told_answers : (kind : LineKind) → kind ≡ Told → is_answering (Some kind) ≡ true
told_answers kind is = rw is refl

heard_answers : (kind : LineKind) → kind ≡ Heard → is_answering (Some kind) ≡ true
heard_answers kind is = rw is refl

pub begin_answers : (kind : LineKind) → kind ≡ Begin → is_answering (Some kind) ≡ true
begin_answers kind is = rw is refl

abbrev pub IsToldLine : NumberedLine → Type 0
IsToldLine line = kind_of line.bytes.now ≡ Told

told_follow : (before : Option LineKind) (xs : List NumberedLine) → AllByRecursion IsToldLine xs → is_answering before ≡ true
    → Follow before (lines_in xs) × (is_answering (last_kind before (lines_in xs)) ≡ true)
told_follow before [] told answering = (tt, answering)
told_follow before (x ∷ xs) told answering =
    let others = told_follow (Some (kind_of x.bytes.now)) xs told.1 (told_answers (kind_of x.bytes.now) told.0) in
    ((told_may before (kind_of x.bytes.now) told.0 answering, others.0), others.1)

parts_follow : (before : Option LineKind) (xs : List NumberedLine) (end : Option (Bor NumberedLine)) → AllByRecursion IsToldLine xs
    → IfSome end (λ line. kind_of line.now.bytes.now ≡ End) → is_answering before ≡ true → Follow before (lines_in xs ++ end_lines end)
parts_follow before xs None told is answering = Follow-append before (lines_in xs) [] (told_follow before xs told answering).0 tt
parts_follow before xs (Some end) told is answering =
    let all = told_follow before xs told answering in
    Follow-append before (lines_in xs) (line_in end.now ∷ []) all.0 (end_may (last_kind before (lines_in xs)) (kind_of end.now.bytes.now) is all.1, tt)

parts_answered : (before : Option LineKind) (xs : List NumberedLine) (end : Option (Bor NumberedLine)) → AllByRecursion IsToldLine xs
    → IfSome end (λ line. kind_of line.now.bytes.now ≡ End) → is_answering before ≡ true → is_some end ≡ true
    → is_answered (last_kind before (lines_in xs ++ end_lines end)) ≡ true
parts_answered before xs None told is answering whole = cc
parts_answered before xs (Some end) told is answering whole =
    ap is_answered (last_kind-append before (lines_in xs) (line_in end.now ∷ []) ∙ ap Some is)

parts_answering : (before : Option LineKind) (xs : List NumberedLine) (end : Option (Bor NumberedLine)) → AllByRecursion IsToldLine xs
    → is_answering before ≡ true → is_some end ≡ false → is_answering (last_kind before (lines_in xs ++ end_lines end)) ≡ true
parts_answering before xs None told answering short =
    ap is_answering (last_kind-append before (lines_in xs) []) ∙ (told_follow before xs told answering).1
parts_answering before xs (Some end) told answering short = cc

pub answer_follows : (before : Option LineKind) (answer : Answer) → IsAnswer answer → is_answering before ≡ true → Follow before (answer_lines answer)
answer_follows before answer is answering = parts_follow before answer.lines.now answer.end (recursion_from_All IsToldLine _ is.told) is.end answering

-- behind an answer with its end a line may be heard, behind one without more may be told
pub whole_is_answered : (before : Option LineKind) (answer : Answer) → IsAnswer answer → is_answering before ≡ true → is_some answer.end ≡ true
    → is_answered (last_kind before (answer_lines answer)) ≡ true
whole_is_answered before answer is answering whole = parts_answered before answer.lines.now answer.end (recursion_from_All IsToldLine _ is.told) is.end answering whole

pub short_is_answering : (before : Option LineKind) (answer : Answer) → IsAnswer answer → is_answering before ≡ true → is_some answer.end ≡ false
    → is_answering (last_kind before (answer_lines answer)) ≡ true
short_is_answering before answer is answering short = parts_answering before answer.lines.now answer.end (recursion_from_All IsToldLine _ is.told) answering short

exchange_follows : (before : Option LineKind) (exchange : Exchange) → IsExchange exchange → is_answered before ≡ true → Follow before (exchange_lines exchange)
exchange_follows before exchange is answered = (
  heard_may before (kind_of exchange.heard.now.bytes.now) is.heard answered,
  answer_follows (Some (kind_of exchange.heard.now.bytes.now)) exchange.answer is.answer (heard_answers _ is.heard),
)

pub exchange_answered : (before : Option LineKind) (exchange : Exchange) → IsExchange exchange → is_some exchange.answer.end ≡ true
    → is_answered (last_kind before (exchange_lines exchange)) ≡ true
exchange_answered before exchange is whole =
    whole_is_answered (Some (kind_of exchange.heard.now.bytes.now)) exchange.answer is.answer (heard_answers _ is.heard) whole

pub exchange_answering : (before : Option LineKind) (exchange : Exchange) → IsExchange exchange → is_some exchange.answer.end ≡ false
    → is_answering (last_kind before (exchange_lines exchange)) ≡ true
exchange_answering before exchange is short =
    short_is_answering (Some (kind_of exchange.heard.now.bytes.now)) exchange.answer is.answer (heard_answers _ is.heard) short

exchanges_follow : (before : Option LineKind) (exchanges : List Exchange) → AllByRecursion IsExchange exchanges → AllButLastAreWhole exchanges
    → is_answered before ≡ true → Follow before (exchanges_lines exchanges)
exchanges_follow before [] are whole answered = tt
exchanges_follow before (exchange ∷ []) are whole answered =
    Follow-append before (exchange_lines exchange) [] (exchange_follows before exchange are.0 answered) tt
exchanges_follow before (exchange ∷ next ∷ exchanges) are whole answered =
    Follow-append before (exchange_lines exchange) (exchanges_lines (next ∷ exchanges)) (exchange_follows before exchange are.0 answered)
    (exchanges_follow (last_kind before (exchange_lines exchange)) (next ∷ exchanges) are.1 whole.1 (exchange_answered before exchange are.0 whole.0))

-- of the first answer's end, and the exchanges behind it
body_follows : (before : Option LineKind) (answer : Answer) (exchanges : List Exchange) (whole : Bool) → is_some answer.end ≡ whole → IsAnswer answer
    → AllByRecursion IsExchange exchanges → (is_some answer.end ≡ false → exchanges ≡ []) → AllButLastAreWhole exchanges → is_answering before ≡ true
    → Follow (last_kind before (answer_lines answer)) (exchanges_lines exchanges)
body_follows before answer exchanges true end is are last whole answering =
    exchanges_follow (last_kind before (answer_lines answer)) exchanges are whole (whole_is_answered before answer is answering end)
body_follows before answer exchanges false end is are last whole answering =
    let F : List Exchange → Type 0 = λ es. Follow (last_kind before (answer_lines answer)) (exchanges_lines es) in
    subst F (sym (last end)) tt

session_follows : (before : Option LineKind) (session : Session) → IsSession session → Follow before (session_lines session)
session_follows before session is =
    let answering = begin_answers (kind_of session.begin.now.bytes.now) is.begun in (
      begin_may before (kind_of session.begin.now.bytes.now) is.begun,
      Follow-append (Some (kind_of session.begin.now.bytes.now)) (answer_lines session.unasked) (exchanges_lines session.exchanges.items)
          (answer_follows _ session.unasked is.unasked answering)
          (body_follows _ session.unasked session.exchanges.items (is_some session.unasked.end) refl is.unasked
          (recursion_from_All IsExchange _ is.exchanges) is.last is.whole answering),
    )

sessions_follow_by_recursion : (before : Option LineKind) (sessions : List Session) → AllByRecursion IsSession sessions → Follow before (sessions_lines sessions)
sessions_follow_by_recursion before [] are = tt
sessions_follow_by_recursion before (session ∷ sessions) are =
    Follow-append before (session_lines session) (sessions_lines sessions) (session_follows before session are.0)
    (sessions_follow_by_recursion (last_kind before (session_lines session)) sessions are.1)

pub sessions_follow : (before : Option LineKind) (sessions : List Session) → All IsSession sessions → Follow before (sessions_lines sessions)
sessions_follow before sessions are = sessions_follow_by_recursion before sessions (recursion_from_All IsSession _ are)
