-- The texts of exit reasons (this project's script format; normal, shutdown and shutdown with a word are those of
-- Erlang/OTP's supervisor manual, failed and crash are this project's).
use Rattle.std.specs.Prelude.{nat_eq, drop, ◌++◌, is_some, Option, Some, None, if◌then◌else◌, codes}
use Rattle.std.specs.Str.{bytes_eq}
use Rattle.std.specs.List.{starts_with}
use Rattle.sup_specs.specs.declared.child.ExitReason.{ExitReason}
use Rattle.sup_specs.specs.declared.child.ExitReason.TheVariants.{Normal, ShutdownWith, Failed, Crash}
use Rattle.sup_specs.specs.declared.child.ExitReason.TheVariants as reason
use Rattle.sup_specs.specs.declared.reasons.ReasonFault.{ReasonFault}
use Rattle.sup_specs.specs.declared.reasons.ReasonFault.TheVariants.{NotAReason}
use Rattle.sup_specs.specs.declared.reasons.ReasonFault.TheVariants as reason_fault
use Rattle.sup_specs.specs.declared.texts.Alphabet.TheVariants.{Visible}
use Rattle.sup_specs.specs.declared.texts.TextFault.{TextFault}
use Rattle.sup_specs.specs.declared.texts.TextFault.TheVariants.{Empty, TooLong, BadByte, OutOfMemory}
use Rattle.sup_specs.specs.Texts.{text_fault}
use Rattle.sup_specs.specs.Values.{Bytes}

abbrev pub reason_text : ExitReason → Bytes
reason_text Normal = codes "normal"
reason_text reason.Shutdown = codes "shutdown"
reason_text (ShutdownWith label) = codes "shutdown:" ++ label
reason_text Failed = codes "failed"
reason_text Crash = codes "crash"

-- what stands behind `shutdown:`
unfoldable pub word_of : Bytes → Option Bytes
word_of text = if starts_with nat_eq text (codes "shutdown:") then Some (drop 9 text) else None

-- a shutdown with a label of 1 to 128 bytes from ! to ~
abbrev pub shutdown_with : Option Bytes → Option ExitReason
shutdown_with None = None
shutdown_with (Some label) = if is_some (text_fault Visible 1 128 label) then None else Some (ShutdownWith label)

-- the reason that has this text
unfoldable pub reason_of : Bytes → Option ExitReason
reason_of text =
    if bytes_eq text (codes "normal") then Some Normal else
    (if bytes_eq text (codes "shutdown") then Some reason.Shutdown else
    (if bytes_eq text (codes "failed") then Some Failed else
    (if bytes_eq text (codes "crash") then Some Crash else
    shutdown_with (word_of text))))

-- what a faulty label is told as
abbrev pub fault_of : TextFault → ReasonFault
fault_of OutOfMemory = reason_fault.OutOfMemory
fault_of Empty = NotAReason
fault_of TooLong = NotAReason
fault_of (BadByte place) = NotAReason
