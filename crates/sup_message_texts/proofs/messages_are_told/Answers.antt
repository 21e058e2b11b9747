use Rattle.sup_message_texts.proofs.MessageTexts.{message_if, if_message}
use Rattle.sup_message_texts.proofs.messages_are_told.Goals as goal

pub returns : goal.returns
returns start = record { told = λ bytes. (message_if bytes, if_message bytes) }
