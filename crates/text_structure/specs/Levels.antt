-- Which directives of a text stand in which, and the first that stands where it can't.
use Rattle.std.specs.Prelude.{ℕ, suc, ◌-◌, nat_eq, not, Bool, true, false, ◌&&◌, List, [], ◌∷◌, ◌++◌, length, take, slice_get, slice_set, Option, Some, None, Result, Ok, Err, if◌then◌else◌}
use Rattle.text_structure.specs.declared.mark.Directive.{Directive}
use Rattle.text_structure.specs.declared.mark.Mark.{Mark}
use Rattle.text_structure.specs.declared.levels.Opener.{Opener}
use Rattle.text_structure.specs.declared.levels.Level.{Level}
use Rattle.text_structure.specs.declared.levels.Misplaced.{Misplaced}
use Rattle.text_structure.specs.Turns.{directive_in, sign_in}

abbrev pub opener_of : Directive → Option Opener
opener_of Directive.If = Some Opener.If
opener_of Directive.Ifdef = Some Opener.If
opener_of Directive.Ifndef = Some Opener.If
opener_of Directive.While = Some Opener.Loop
opener_of Directive.For = Some Opener.Loop
opener_of Directive.Switch = Some Opener.Switch
opener_of Directive.Macro = Some Opener.Macro
opener_of other = None

-- the open directives, the outermost first

abbrev pub innermost : List Level → Option Level
innermost levels = slice_get levels (length levels - 1)

abbrev pub is_breakable : Option Level → Bool
is_breakable None = false
is_breakable (Some level) = level.breakable

-- a macro's body is left by no `#break`
abbrev pub breaks : Opener → Bool → Bool
breaks Opener.If outer = outer
breaks Opener.Switch outer = true
breaks Opener.Loop outer = true
breaks Opener.Macro outer = false

abbrev pub level_of : List Level → ℕ → Opener → Level
level_of levels at opener = record { at = at; opener = opener; parted = false; breakable = breaks opener (is_breakable (innermost levels)) }

abbrev pub is_branched : Opener → Bool
is_branched Opener.If = true
is_branched Opener.Switch = true
is_branched other = false

abbrev pub is_switch : Opener → Bool
is_switch Opener.Switch = true
is_switch other = false

-- an if or a switch has one `#else`
abbrev pub may_part : Option Level → Bool
may_part None = false
may_part (Some level) = is_branched level.opener && not level.parted

abbrev pub may_choose : Option Level → Bool
may_choose None = false
may_choose (Some level) = is_switch level.opener

abbrev pub with_part : Option Level → List Level → List Level
with_part None levels = levels
with_part (Some level) levels = slice_set levels (length levels - 1) (record level { parted = true })

-- whether a directive may stand behind what is open
abbrev pub may_stand : Directive → List Level → Bool
may_stand Directive.End levels = not (nat_eq (length levels) 0)
may_stand Directive.Else levels = may_part (innermost levels)
may_stand Directive.Case levels = may_choose (innermost levels)
may_stand Directive.Range levels = may_choose (innermost levels)
may_stand Directive.Break levels = is_breakable (innermost levels)
may_stand other levels = true

abbrev pub closed_by : Directive → List Level → List Level
closed_by Directive.End levels = take (length levels - 1) levels
closed_by Directive.Else levels = with_part (innermost levels) levels
closed_by other levels = levels

abbrev pub behind_by : Option Opener → Directive → ℕ → List Level → List Level
behind_by (Some opener) directive at levels = levels ++ level_of levels at opener ∷ []
behind_by None directive at levels = closed_by directive levels

-- what is open behind a directive
abbrev pub behind : Directive → ℕ → List Level → List Level
behind directive at levels = behind_by (opener_of directive) directive at levels

-- the directive whose `#` the tokens begin with
abbrev pub directive_first : List Mark → Option Directive
directive_first [] = None
directive_first (m ∷ further) = if nat_eq (sign_in (Some m)) 35 then directive_in (slice_get further 0) else None

abbrev pub further_open : Option Directive → ℕ → List Level → (List Level → Result (List Level) ℕ) → Result (List Level) ℕ
further_open None at levels further = further levels
further_open (Some directive) at levels further = if may_stand directive levels then further (behind directive at levels) else Err at

-- what is still open at the end of a text; Err at the first directive that can't stand there
abbrev pub left_open : List Mark → ℕ → List Level → Result (List Level) ℕ
left_open [] at levels = Ok levels
left_open (m ∷ further) at levels = further_open (directive_first (m ∷ further)) at levels (left_open further (suc at))

abbrev pub leftmost : Option Level → Result ℕ Misplaced
leftmost None = Ok 0
leftmost (Some level) = Err (Misplaced.NoEnd level.at)

abbrev pub structure_by : Result (List Level) ℕ → Result ℕ Misplaced
structure_by (Ok levels) = leftmost (slice_get levels 0)
structure_by (Err at) = Err (Misplaced.Stray at)

-- the first fault of a text's structure: a directive that can't stand there, else the leftmost without its `#end`
abbrev pub structure : List Mark → Result ℕ Misplaced
structure m = structure_by (left_open m 0 [])
