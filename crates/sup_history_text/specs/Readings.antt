-- What a session says, wherever it lies in memory (this project's format of histories).
use Rattle.std.specs.Prelude.{List, Option, map, option_map}
use Rattle.sup_history_text.specs.Lines.{Line, line_in, lines_in}
use Rattle.sup_history_text.specs.declared.answer.Answer.{Answer}
use Rattle.sup_history_text.specs.declared.exchange.Exchange.{Exchange}
use Rattle.sup_history_text.specs.declared.session.Session.{Session}

-- the lines that were told, and the one that ends them
abbrev pub AnswerSaid : Type 0
AnswerSaid = List Line × Option Line

-- the line that was heard, and its answer
abbrev pub ExchangeSaid : Type 0
ExchangeSaid = Line × AnswerSaid

-- the begin, the answer that came unasked, and the exchanges
abbrev pub SessionSaid : Type 0
SessionSaid = Line × AnswerSaid × List ExchangeSaid

abbrev pub answer_said : Answer → AnswerSaid
answer_said answer = (lines_in answer.lines.now, option_map (λ end. line_in end.now) answer.end)

abbrev pub exchange_said : Exchange → ExchangeSaid
exchange_said exchange = (line_in exchange.heard.now, answer_said exchange.answer)

abbrev pub session_said : Session → SessionSaid
session_said session = (line_in session.begin.now, answer_said session.unasked, map exchange_said session.exchanges.items)
