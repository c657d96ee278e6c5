-- Which calls of a shelf in memory fail.
use Rattle.std.specs.Prelude.{◌≡◌, ◌+◌, ◌-◌, ◌^◌, min, ◌↔◌, ◌⊎◌, Bool, Some, option_map, if◌then◌else◌}
use Rattle.shelf.specs.declared.turns.Turns.{Turns}

-- this call is the one that was named, or comes after the last change that was let through
abbrev pub IsDue : Turns → Type 0
IsDue turns = (turns.countdown ≡ 1) ⊎ (turns.changes_left ≡ Some 0)

-- one counted call: it fails exactly where it is due, and the count rises exactly then
pub record TakesTurn (is_change : Bool) (old new : Turns) (Fault : Type 0) : Type 0 where
  pub fails : Fault ↔ IsDue old
  pub next : new.countdown ≡ old.countdown - 1
  pub changes_left : new.changes_left ≡ (if is_change then option_map (λ n. n - 1) old.changes_left else old.changes_left)
  pub rose : Fault → new.failures ≡ min (old.failures + 1) (2 ^ 64 - 1)
  pub stays : ¬ Fault → new.failures ≡ old.failures
