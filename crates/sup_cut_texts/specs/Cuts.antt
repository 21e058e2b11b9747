-- Texts that are cut short (this project).
use Rattle.std.specs.Prelude.{◌≡◌, ◌⊎◌, ℕ, ◌<◌, length, take, None, Result, Err, IfOk, IfErr}
use Rattle.serde_json.specs.Read.{read}
use Rattle.sup_specs.specs.Values.{Bytes}
use Rattle.sup_wire.specs.declared.fault.WireFault.{WireFault}
use Rattle.sup_wire.specs.declared.fault.WireFault.TheVariants.{NotJson, OutOfMemory}
use Rattle.sup_wire.specs.Drafts.{Draft}
use Rattle.sup_wire.specs.Faults.{TextSays, IsTextOf, IsFault}

-- no JSON value is read of a shorter front of a text that is written
abbrev pub AreFrontsUnread : {M : Type 0} → (M → Draft → Type 0) → (M → Type 0) → Type 0
AreFrontsUnread {M} IsDraft InRange = (text : Bytes) (x : M) (k : ℕ) → IsTextOf IsDraft InRange text x → k < length text → read (take k text) ≡ None

-- a shorter front of a text that is written says nothing
abbrev pub AreFrontsMute : {M : Type 0} → (M → Draft → Type 0) → (M → Type 0) → Type 0
AreFrontsMute {M} IsDraft InRange = (text : Bytes) (x : M) (k : ℕ) → IsTextOf IsDraft InRange text x → k < length text → (y : M) → ¬ TextSays IsDraft (take k text) y

-- a true answer to a shorter front of a text that is written, where drafts of a kind are asked for, is that it is no JSON, or that memory ran out
abbrev pub AreFrontsRefused : {M : Type 0} → (Draft → Type 0) → (M → Draft → Type 0) → (M → Type 0) → Type 0
AreFrontsRefused {M} Kind IsDraft InRange = (text : Bytes) (x : M) (k : ℕ) → IsTextOf IsDraft InRange text x → k < length text
    → (answer : Result M WireFault) → IfOk answer (λ y. TextSays IsDraft (take k text) y) → IfErr answer (IsFault Kind (take k text)) → (answer ≡ Err NotJson) ⊎ (answer ≡ Err OutOfMemory)
