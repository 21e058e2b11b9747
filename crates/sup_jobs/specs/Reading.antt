-- How much of a reader is taken, by how reading it ends (this project).
use Rattle.std.specs.Prelude.{◌≡◌, ◌≤◌, ◌||◌, nat_le, ℕ, Bool, List, length, Option, Result, Ok, Err}
use Rattle.std.specs.Io.KnownBytes.{Consumes}
use Rattle.sup_jobs.specs.declared.input.InputFault.{InputFault}
use Rattle.sup_jobs.specs.declared.input.InputFault.TheVariants.{TooLong, Device, OutOfMemory}

-- The bytes that were taken are the input, or one byte more than an input may have, or at most as many as it may have.
abbrev pub IsReadAs : {X : Type 0} → (X → List ℕ) → Result X InputFault → List ℕ → Type 0
IsReadAs view (Ok input) taken = taken ≡ view input
IsReadAs view (Err TooLong) taken = length taken ≡ 1048577
IsReadAs view (Err Device) taken = length taken ≤ 1048576
IsReadAs view (Err OutOfMemory) taken = length taken ≤ 1048576

-- What was taken from the reader is what the answer tells of it.
abbrev pub ReadsFor : {X : Type 0} → (X → List ℕ) → Result X InputFault → Option (List ℕ) → Option (List ℕ) → Type 0
ReadsFor view answer before after = (taken : List ℕ) × IsReadAs view answer taken × Consumes before after taken

-- What is known of a reader that is asked for bytes.
pub record AskedReader : Type 0 where
  pub most : ℕ  -- so often it may be asked
  pub asked : ℕ  -- so often it was, the interrupted questions among them
  pub failed : Bool

-- No more questions may be put: the reader failed, or was asked as often as it may be.
abbrev pub is_spent : AskedReader → Bool
is_spent reader = reader.failed || nat_le reader.most reader.asked
