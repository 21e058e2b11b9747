-- What is set for a node, and its limits (this project). One restart within five seconds is Erlang/OTP's default.
use Rattle.std.specs.Prelude.{◌≤◌, ℕ, Bool, ◌&&◌, nat_le, Option, Some, None, if◌then◌else◌}

pub record Config : Type 0 where
  pub intensity : ℕ  -- how many restarts within the period don't end the node's membership
  pub period : ℕ
  pub buffer : ℕ  -- how many of the newest deltas are held

abbrev pub AreInLimits : ℕ → ℕ → ℕ → Type 0
AreInLimits intensity period buffer = (intensity ≤ 1000) × ((1 ≤ period) × ((period ≤ 1000000) × ((1 ≤ buffer) × (buffer ≤ 1024))))

abbrev pub in_limits : ℕ → ℕ → ℕ → Bool
in_limits intensity period buffer = nat_le intensity 1000 && (nat_le 1 period && (nat_le period 1000000 && (nat_le 1 buffer && nat_le buffer 1024)))

abbrev pub config_of : ℕ → ℕ → ℕ → Option Config
config_of intensity period buffer = if in_limits intensity period buffer then Some (record { intensity = intensity; period = period; buffer = buffer }) else None

abbrev pub default : Config
default = record { intensity = 1; period = 5; buffer = 64 }
