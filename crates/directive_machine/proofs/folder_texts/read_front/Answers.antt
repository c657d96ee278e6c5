use Rattle.std.proofs.Common.{◌≡◌, ℕ, List, [], ◌++◌, take, Option, Some, option_map, ap, ◌∙◌}
use Rattle.std.specs.Prelude.{IfSome}
use Rattle.directive_machine.proofs.folder_texts.read_front.Goals as goal

-- what is read through a limit is a front of what is left
front_read : (known : Option (List ℕ)) (limit most : ℕ) (none left new : List ℕ) → none ≡ [] → limit ≡ most → known ≡ Some left → IfSome (option_map (take limit) known) (λ xs. new ≡ none ++ xs) → new ≡ take most left
front_read known limit most none left new empty size is read = rw (is, size, empty) at read

pub returns-in-Ok : goal.returns-in-Ok
returns-in-Ok g c = λ left held. front_read (g.F.Read.remaining c.take.result.inner) c.take.result.limit 16777217 _ left _ c.new-bytes.ensures.items c.take.ensures.limit (ap g.F.Read.remaining c.take.ensures.inner ∙ held) c.in-Ok.ensures.bytes
