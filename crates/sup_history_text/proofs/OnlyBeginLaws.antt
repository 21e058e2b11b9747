-- Behind what was read to its end only a begin may stand.
use Rattle.std.proofs.Common.{◌≡◌, ◌≢◌, ℕ, zero, suc, ◌<◌, List, [], ◌∷◌, ◌++◌, length, get_or, drop, Option, None, Some, true, false, refl, sym, ◌∙◌, ap, subst, arith}
use Rattle.std.specs.Prelude.{is_some, slice_get, All, IfSome}
use Rattle.std.proofs.lemmas.List.Elements.{All-push, All-same}
use Rattle.sup_history_text.specs.Kinds.{kind_of, may_follow, is_answering, is_answered}
use Rattle.sup_history_text.specs.Lines.{Line, line_in, lines_in}
use Rattle.sup_history_text.specs.Sessions.{answer_lines, exchange_lines, exchanges_lines, session_lines, sessions_lines, IsAnswer, IsExchange, goes_on, is_told}
use Rattle.sup_history_text.specs.Histories.{Follow, OnlyBeginFollows, last_kind}
use Rattle.sup_history_text.specs.declared.kinds.LineKind.{LineKind}
use Rattle.sup_history_text.specs.declared.kinds.LineKind.TheVariants.{Begin, Heard, Told, End, Other}
use Rattle.sup_history_text.specs.declared.line.NumberedLine.{NumberedLine}
use Rattle.sup_history_text.specs.declared.answer.Answer.{Answer}
use Rattle.sup_history_text.specs.declared.exchange.Exchange.{Exchange}
use Rattle.sup_history_text.specs.declared.session.Session.{Session}
use Rattle.sup_history_text.proofs.OrderLaws.{Follow-behind, last_kind-append, whole_is_answered, short_is_answering, exchange_answered, exchange_answering}

-- what stands where there is no line
abbrev pub no_line : NumberedLine
no_line = record { number = 0; bytes = record { ref_ptr = (0, 0); now = [] } }

answered_or_answering : (before : Option LineKind) → is_answered before ≡ true → is_answering before ≡ true → ⊥
answered_or_answering None answered answering = cc
answered_or_answering (Some Begin) answered answering = cc
answered_or_answering (Some Heard) answered answering = cc
answered_or_answering (Some Told) answered answering = cc
answered_or_answering (Some End) answered answering = cc
answered_or_answering (Some Other) answered answering = cc

answered_is_end : (before : Option LineKind) → is_answered before ≡ true → before ≡ Some End
answered_is_end None answered = cc
answered_is_end (Some Begin) answered = cc
answered_is_end (Some Heard) answered = cc
answered_is_end (Some Told) answered = cc
answered_is_end (Some End) answered = refl
answered_is_end (Some Other) answered = cc

-- an answer has ended, and nothing is heard
unheard_begins : (before : Option LineKind) (kind : LineKind) → is_answered before ≡ true → kind ≢ Heard → may_follow before kind ≡ true → kind ≡ Begin
unheard_begins before Begin answered unheard may = refl
unheard_begins before Heard answered unheard may = absurd (unheard refl)
unheard_begins before Told answered unheard may = absurd (answered_or_answering before answered may)
unheard_begins before End answered unheard may = absurd (answered_or_answering before answered may)
unheard_begins before Other answered unheard may = cc

-- an answer has not ended, and no more of it is told
untold_begins : (before : Option LineKind) (kind : LineKind) → is_answering before ≡ true → is_told kind ≡ false → may_follow before kind ≡ true → kind ≡ Begin
untold_begins before Begin answering untold may = refl
untold_begins before Heard answering untold may = absurd (answered_or_answering before may answering)
untold_begins before Told answering untold may = cc
untold_begins before End answering untold may = cc
untold_begins before Other answering untold may = cc

not_told : (kind : LineKind) → kind ≢ Told → kind ≢ End → is_told kind ≡ false
not_told Begin told end = refl
not_told Heard told end = refl
not_told Told told end = absurd (told refl)
not_told End told end = absurd (end refl)
not_told Other told end = refl

pub goes_not_on : (xs : List NumberedLine) (n : ℕ) → (n < length xs → kind_of (get_or xs n no_line).bytes.now ≢ Told)
    → (n < length xs → kind_of (get_or xs n no_line).bytes.now ≢ End) → goes_on (drop n xs) ≡ false
goes_not_on [] zero told end = refl
goes_not_on [] (suc n) told end = refl
goes_not_on (x ∷ xs) zero told end = not_told (kind_of x.bytes.now) (told (omega arith)) (end (omega arith))
goes_not_on (x ∷ xs) (suc n) told end = goes_not_on xs n (λ lt. told (omega arith)) (λ lt. end (omega arith))

pub begin_behind_short : (before : Option LineKind) (xs : List NumberedLine) → is_answering before ≡ true → goes_on xs ≡ false → OnlyBeginFollows before (lines_in xs)
begin_behind_short before [] answering untold = tt
begin_behind_short before (x ∷ xs) answering untold = λ may. untold_begins before (kind_of x.bytes.now) answering untold may

pub begin_behind_whole : (before : Option LineKind) (xs : List NumberedLine) (n : ℕ) → is_answered before ≡ true
    → (n < length xs → kind_of (get_or xs n no_line).bytes.now ≢ Heard) → OnlyBeginFollows before (lines_in (drop n xs))
begin_behind_whole before [] zero answered unheard = tt
begin_behind_whole before [] (suc n) answered unheard = tt
begin_behind_whole before (x ∷ xs) zero answered unheard = λ may. unheard_begins before (kind_of x.bytes.now) answered (unheard (omega arith)) may
begin_behind_whole before (x ∷ xs) (suc n) answered unheard = begin_behind_whole before xs n answered (λ lt. unheard (omega arith))

-- the last of some exchanges
pub last_answered : (before : Option LineKind) (es : List Exchange) (e : Exchange) → IsExchange e → is_some e.answer.end ≡ true
    → is_answered (last_kind before (exchanges_lines (es ++ e ∷ []))) ≡ true
last_answered before [] e is whole = ap is_answered (last_kind-append before (exchange_lines e) []) ∙ exchange_answered before e is whole
last_answered before (x ∷ es) e is whole =
    ap is_answered (last_kind-append before (exchange_lines x) (exchanges_lines (es ++ e ∷ []))) ∙ last_answered (last_kind before (exchange_lines x)) es e is whole

pub last_answering : (before : Option LineKind) (es : List Exchange) (e : Exchange) → IsExchange e → is_some e.answer.end ≡ false
    → is_answering (last_kind before (exchanges_lines (es ++ e ∷ []))) ≡ true
last_answering before [] e is short = ap is_answering (last_kind-append before (exchange_lines e) []) ∙ exchange_answering before e is short
last_answering before (x ∷ es) e is short =
    ap is_answering (last_kind-append before (exchange_lines x) (exchanges_lines (es ++ e ∷ []))) ∙ last_answering (last_kind before (exchange_lines x)) es e is short

-- behind a session whose first answer has no end
pub begin_behind_unasked : (before : Option LineKind) (answer : Answer) (es : List Exchange) (rest : List NumberedLine) → es ≡ [] → IsAnswer answer
    → is_answering before ≡ true → is_some answer.end ≡ false → goes_on rest ≡ false → OnlyBeginFollows (last_kind before (answer_lines answer ++ exchanges_lines es)) (lines_in rest)
begin_behind_unasked before answer [] rest none is answering short untold =
    begin_behind_short (last_kind before (answer_lines answer ++ [])) rest
    (ap is_answering (last_kind-append before (answer_lines answer) []) ∙ short_is_answering before answer is answering short) untold
begin_behind_unasked before answer (e ∷ es) rest none is answering short untold = cc

-- behind one whose first answer has its end, and the exchanges behind that
pub begin_behind_exchanges : (before : Option LineKind) (answer : Answer) (es : List Exchange) (rest : List Line) → IsAnswer answer → is_answering before ≡ true
    → is_some answer.end ≡ true → OnlyBeginFollows (last_kind (Some End) (exchanges_lines es)) rest → OnlyBeginFollows (last_kind before (answer_lines answer ++ exchanges_lines es)) rest
begin_behind_exchanges before answer es rest is answering whole over =
    let F : Option LineKind → Type 0 = λ k. OnlyBeginFollows k rest in
    let end : last_kind before (answer_lines answer) ≡ Some End = answered_is_end _ (whole_is_answered before answer is answering whole) in
    subst F (sym (last_kind-append before (answer_lines answer) (exchanges_lines es) ∙ ap (λ k. last_kind k (exchanges_lines es)) end)) over

-- the last of some sessions
last_session : (before : Option LineKind) (ss : List Session) (s : Session) → last_kind before (sessions_lines (ss ++ s ∷ [])) ≡ last_kind None (session_lines s)
last_session before [] s = last_kind-append before (session_lines s) []
last_session before (x ∷ ss) s = last_kind-append before (session_lines x) (sessions_lines (ss ++ s ∷ [])) ∙ last_session (last_kind before (session_lines x)) ss s

pub begin_behind_sessions : (ss : List Session) (s : Session) (rest : List Line) → OnlyBeginFollows (last_kind None (session_lines s)) rest
    → OnlyBeginFollows (last_kind None (sessions_lines (ss ++ s ∷ []))) rest
begin_behind_sessions ss s rest over = let F : Option LineKind → Type 0 = λ k. OnlyBeginFollows k rest in subst F (sym (last_session None ss s)) over

only_begin_at : (before : Option LineKind) (xs : List NumberedLine) (n : ℕ) → n < length xs → OnlyBeginFollows before (lines_in (drop n xs))
    → may_follow before (kind_of (get_or xs n no_line).bytes.now) ≡ true → kind_of (get_or xs n no_line).bytes.now ≡ Begin
only_begin_at before [] n lt over may = absurd (omega arith)
only_begin_at before (x ∷ xs) zero lt over may = over may
only_begin_at before (x ∷ xs) (suc n) lt over may = only_begin_at before xs n (omega arith) over may

-- what is no begin is out of order there
pub out_of_order : (front : List Line) (xs : List NumberedLine) (n : ℕ) → n < length xs → OnlyBeginFollows (last_kind None front) (lines_in (drop n xs))
    → kind_of (get_or xs n no_line).bytes.now ≢ Begin → (more : List Line) → ¬ Follow None (front ++ line_in (get_or xs n no_line) ∷ more)
out_of_order front xs n lt over other more follow =
    other (only_begin_at (last_kind None front) xs n lt over (Follow-behind None front (line_in (get_or xs n no_line) ∷ more) follow).0)

-- the first line, of which there is one
pub first_begins : (xs : List NumberedLine) → 0 < length xs → IfSome (slice_get xs 0) (λ line. kind_of line.bytes.now ≡ Begin) → kind_of (get_or xs 0 no_line).bytes.now ≡ Begin
first_begins [] some begun = absurd (omega arith)
first_begins (x ∷ xs) some begun = begun

-- one exchange more
pub short_pushed : (before : Option LineKind) (es new : List Exchange) (e : Exchange) (rest : List NumberedLine) → new ≡ es ++ e ∷ [] → IsExchange e
    → is_some e.answer.end ≡ false → goes_on rest ≡ false → OnlyBeginFollows (last_kind before (exchanges_lines new)) (lines_in rest)
short_pushed before es new e rest pushed is short untold =
    begin_behind_short (last_kind before (exchanges_lines new)) rest
    (ap (λ es. is_answering (last_kind before (exchanges_lines es))) pushed ∙ last_answering before es e is short) untold

pub whole_pushed : (before : Option LineKind) (es new : List Exchange) (e : Exchange) → new ≡ es ++ e ∷ [] → IsExchange e
    → is_some e.answer.end ≡ true → is_answered (last_kind before (exchanges_lines new)) ≡ true
whole_pushed before es new e pushed is whole = ap (λ es. is_answered (last_kind before (exchanges_lines es))) pushed ∙ last_answered before es e is whole

pub exchange_pushed : (es new : List Exchange) (e : Exchange) → new ≡ es ++ e ∷ [] → All IsExchange es → IsExchange e → All IsExchange new
exchange_pushed es new e pushed are is = All-same IsExchange new (es ++ e ∷ []) pushed (All-push IsExchange es e are is)
