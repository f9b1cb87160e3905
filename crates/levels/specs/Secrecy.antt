-- Public below secret.
use Rattle.std.specs.Prelude.{ℕ, Bool, true, false, cond, Some, None, Option, ◌==◌}
use Rattle.rules.specs.Order.{Order}
use Rattle.levels.specs.declared.secrecy.Secrecy.{Secrecy}
use Rattle.levels.specs.declared.secrecy.Secrecy.TheVariants.{Public, Secret}

abbrev pub secrecy_join : Secrecy → Secrecy → Secrecy
secrecy_join Public b = b
secrecy_join Secret b = Secret

abbrev pub secrecy_flows : Secrecy → Secrecy → Bool
secrecy_flows Public b = true
secrecy_flows Secret Public = false
secrecy_flows Secret Secret = true

abbrev pub secrecy_order : Order Secrecy
secrecy_order = record { least = Public; join = secrecy_join; flows = secrecy_flows }

-- The level that a digit tells: 0 public, 1 secret; the digit 0 is byte 48.
abbrev pub secrecy_of : ℕ → Option Secrecy
secrecy_of b = cond (b == 48) (Some Public) (cond (b == 49) (Some Secret) None)
