-- What a call of its keeper leaves of the keeper's count of failures and of its tests, and what that has to do with a station's answer.
use Rattle.std.specs.Prelude.{◌≡◌, ◌≢◌, ◌<◌, ◌≤◌, ◌+◌, ℕ, Bool, true, Result, Err, IsErr, OnOk}
use mathlib.Core.Logic.{◌⊎◌}
use Rattle.sup_replica.specs.declared.refusal.Refusal.{Refusal}
use Rattle.sup_replica.specs.declared.refusal.Refusal.TheVariants.{KeepFailed}

-- a keeper that was asked to save, once at most, before this answer
pub record CountsSave {K A : Type 0} (failures : K → ℕ) (is_failing is_sound is_readable : K → Bool) (old new : K) (result : Result A Refusal) : Type 0 where
  pub rose : result ≡ Err KeepFailed → failures old < failures new
  pub told : failures old < failures new → result ≡ Err KeepFailed
  pub never_falls : failures old ≤ failures new
  pub by_one : failures new ≤ failures old + 1
  pub uncounted : OnOk result (failures new ≡ failures old)
  pub failing : is_failing old ≡ true → IsErr result
  pub sound : is_sound old ≡ true → result ≢ Err KeepFailed
  pub stays_sound : is_sound old ≡ true → is_sound new ≡ true
  pub stays_readable : is_readable old ≡ true → is_readable new ≡ true
  pub steady : is_sound old ≡ true → failures new ≡ failures old

-- one that was asked to load, once at most
pub record CountsLoad {K A : Type 0} (failures : K → ℕ) (is_failing is_sound is_readable : K → Bool) (old new : K) (result : Result A Refusal) : Type 0 where
  pub rose : result ≡ Err KeepFailed → failures old < failures new
  pub told : failures old < failures new → result ≡ Err KeepFailed
  pub never_falls : failures old ≤ failures new
  pub by_one : failures new ≤ failures old + 1
  pub uncounted : OnOk result (failures new ≡ failures old)
  pub stays_failing : is_failing new ≡ is_failing old
  pub stays_sound : is_sound new ≡ is_sound old
  pub stays_readable : is_readable new ≡ is_readable old
  pub sound : is_sound old ≡ true → result ≢ Err KeepFailed
  pub failing : is_failing old ≡ true → result ≢ Err KeepFailed
  pub readable : is_readable old ≡ true → result ≢ Err KeepFailed
  pub steady : (is_failing old ≡ true) ⊎ (is_sound old ≡ true) → failures new ≡ failures old
