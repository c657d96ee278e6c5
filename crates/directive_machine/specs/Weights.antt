-- How many rounds without a token a part can still have.
use Rattle.std.specs.Prelude.{ℕ, ◌+◌, ◌-◌, ◌*◌, ◌<◌, ◌≤◌, ◌-ℤ◌, ℤ, unsigned_abs, true, List, if◌then◌else◌}
use Rattle.std.specs.List.{sum_by}
use Rattle.std.specs.Prelude.{◌≡◌}
use Rattle.directive_machine.specs.Rounds.{goes_round}
use Rattle.directive_machine.specs.declared.part.Part.{Part}
use Rattle.directive_machine.specs.declared.part.Then.{Then}
use Rattle.directive_machine.specs.Moves.{Next}

abbrev pub distance : ℤ → ℤ → ℕ
distance number last = unsigned_abs (last -ℤ number)

abbrev pub weight : Then → ℕ
weight (Then.Turn turns number last step) = distance number last + 2
weight (Then.Fall parted) = if parted then 1 else 2
weight (Then.Read at) = 2
weight other = 1

abbrev pub weight_of : Part → ℕ
weight_of part = weight part.then

abbrev pub weights : List Part → ℕ
weights parts = sum_by weight_of parts

abbrev pub most_weight : ℕ
most_weight = 73786976294838206464

-- a further part has fewer rounds than a token is worth
abbrev pub is_light : Next → Type 0
is_light (Next.Done broken) = 0 ≤ 0
is_light (Next.Further part) = weight part.then < most_weight

-- a further part has taken a token, or has fewer rounds left
abbrev pub keeps_measure : Next → ℕ → ℕ → ℕ → Type 0
keeps_measure (Next.Done broken) old new left = old ≤ new
keeps_measure (Next.Further part) old new left = (16777216 - new) * most_weight + weight part.then < (16777216 - old) * most_weight + left

-- a further part is the body for this number, which is at the last one at most
abbrev pub is_turn : Next → ℤ → ℤ → ℤ → Type 0
is_turn (Next.Done broken) number last step = 0 ≤ 0
is_turn (Next.Further part) number last step = (weight part.then ≡ distance number last + 2) × (goes_round number last step ≡ true)

abbrev pub is_lighter : Next → ℕ → Type 0
is_lighter (Next.Done broken) most = 0 ≤ 0
is_lighter (Next.Further part) most = weight part.then < most
