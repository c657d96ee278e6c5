-- A count of faults that rose in a later call.
use Rattle.std.proofs.Common.{ℕ, ◌+◌, ◌-◌, ◌^◌, ◌≤◌, min, arith}
use Rattle.shelf.specs.Causes.{HasCause, Rose}

rose_from : (a b c : ℕ) → a ≤ b → Rose b c → Rose a c
rose_from a b c h r = let r' : min (b + 1) (2 ^ 64 - 1) ≤ c = r in omega arith

-- what is the cause of a later call's fault is that of the whole
pub caused_on : (a b c : ℕ) (P : Type 0) → a ≤ b → HasCause b c P → HasCause a c P
caused_on a b c P first later = record { later = omega (arith, first, later.later); rose = λ p. rose_from a b c first (later.rose p) }

-- no fault, no cause
pub no_cause : (a b : ℕ) (P : Type 0) → a ≤ b → (P → ⊥) → HasCause a b P
no_cause a b P first none = record { later = first; rose = λ p. absurd (none p) }
